-- `read_ids` meets its contract.
use Rattle.packet_preamble.proofs.Preambles.{ids_cut, ids_zero, ids_found}
use Rattle.packet_preamble.proofs.read_ids.Goals as goal

pub returns-then-packet-lt-FRAGMENT_PREAMBLE : goal.returns-then-packet-lt-FRAGMENT_PREAMBLE
returns-then-packet-lt-FRAGMENT_PREAMBLE c = ids_cut c.args.packet.now c.requires c.if-packet-lt-FRAGMENT_PREAMBLE.true

pub returns-then-fragment-eq0 : goal.returns-then-fragment-eq0
returns-then-fragment-eq0 c = ids_zero c.args.packet.now c.requires c.if-packet-lt-FRAGMENT_PREAMBLE.false c.big8-fragment.result c.big8-fragment.ensures.0 c.if-fragment-eq0.true

pub returns : goal.returns
returns c = ids_found c.args.packet.now c.requires c.if-packet-lt-FRAGMENT_PREAMBLE.false c.big8-fragment.result c.big8-fragment.ensures.0 c.big8-sequence.result c.big8-sequence.ensures.0 c.if-fragment-eq0.false
