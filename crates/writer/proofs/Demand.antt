-- Demand 3 over the calls `write_standalone`, `write_payload`, `read_standalone` and `read_payload`: their promises are the relations `WriteCall` and `ReadCall`, and
-- what any calls by these relations come to is `Demand3` (term_spec/specs/Demands). `NoLongList`, `BadTexts` and `OnlyWidens` (term_spec/specs/Lists, BadTexts, Widening) are said of the same relations.
use Prim.Native.Nat.{ℕ}
use contract.Lifetimes.{Lfts}
use Rattle.term_spec.specs.Term.{Term}
use Rattle.term_spec.specs.AtomList.{lent_list}
use Rattle.term_spec.specs.Message.{standalone, payload}
use Rattle.term_spec.specs.Promises.{ReadCall, WriteCall}
use Rattle.term_spec.specs.Demands.{AcceptedTerm, Demand3}
use Rattle.term_spec.specs.Same.{MapsHaveNoOrder}
use Rattle.term_spec.specs.Lists.{NoLongList}
use Rattle.term_spec.specs.BadTexts.{BadTexts}
use Rattle.term_spec.specs.Widening.{OnlyWidens}
use Rattle.term_spec.proofs.Demand as definitions
use Rattle.term_spec.proofs.Same as same
use Rattle.term_spec.proofs.Lists as lists
use Rattle.term_spec.proofs.BadTexts as texts
use Rattle.term_spec.proofs.Widening as widening
use Rattle.reader.proofs.read_standalone.Reads as read_standalone
use Rattle.reader.proofs.read_payload.Reads as read_payload
use Rattle.writer.proofs.write_standalone.Reads as write_standalone
use Rattle.writer.proofs.write_payload.Reads as write_payload

-- These are the promises of the calls: what holds after any call, with any arguments a, result r and lent slices s after it
pub promised_write_standalone : (κs : Lfts 5) (a : _) (r : _) (s : _) → write_standalone.Post κs a r s
    → WriteCall a.0.flags standalone (lent_list a.1.1.0 a.1.1.1.0.now a.1.1.1.1.0.now) a.1.0.now a.1.1.1.1.1.0.now a.1.1.1.1.1.1.0.now r
    s.1.1.1.1.1.0.now s.1.1.1.1.1.1.0.now
promised_write_standalone κs a r s p = p

pub promised_write_payload : (κs : Lfts 5) (a : _) (r : _) (s : _) → write_payload.Post κs a r s
    → WriteCall a.0.flags payload (lent_list a.1.1.0 a.1.1.1.0.now a.1.1.1.1.0.now) a.1.0.now a.1.1.1.1.1.0.now a.1.1.1.1.1.1.0.now r
    s.1.1.1.1.1.0.now s.1.1.1.1.1.1.0.now
promised_write_payload κs a r s p = p

pub promised_read_standalone : (κs : Lfts 4) (a : _) (r : _) (s : _) → read_standalone.Post κs a r s
    → ReadCall a.0.flags standalone (lent_list a.1.1.0 a.1.1.1.0.now a.1.1.1.1.0.now) a.1.0.now a.1.1.1.1.1.0.now r s.1.1.1.1.1.0.now
promised_read_standalone κs a r s p = p

pub promised_read_payload : (κs : Lfts 4) (a : _) (r : _) (s : _) → read_payload.Post κs a r s
    → ReadCall a.0.flags payload (lent_list a.1.1.0 a.1.1.1.0.now a.1.1.1.1.0.now) a.1.0.now a.1.1.1.1.1.0.now r s.1.1.1.1.1.0.now
promised_read_payload κs a r s p = p

-- For every flags and any two terms accepted with them, of one message or of two
pub demand_3 : (flags : ℕ) (t u : Term) (a : AcceptedTerm flags t) (b : AcceptedTerm flags u) → Demand3 flags t u a b
demand_3 = definitions.demand_3

-- What `means the same` says there: the same but for the order of pairs, at any depth
pub maps_have_no_order : MapsHaveNoOrder
maps_have_no_order = same.maps_have_no_order

-- Of the same calls: no list that they read or write has more than 8,191 elements
pub no_long_list : NoLongList
no_long_list = lists.no_long_list

-- Of the same calls: where they refuse with 5, the place is the bad byte of an atom's text
pub bad_texts : BadTexts
bad_texts = texts.bad_texts

-- Of the same calls: V4_NC only widens what they accept
pub only_widens : OnlyWidens
only_widens = widening.only_widens
