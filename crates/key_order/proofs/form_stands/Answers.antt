-- `form_stands` meets its contract.
use Rattle.std.proofs.lemmas.Option.{IfSome_then}
use Rattle.key_order.proofs.Forms.{term_sound, form_stands}
use Rattle.key_order.proofs.form_stands.Goals as goal

pub returns : goal.returns
returns c = λ places lengths t h. IfSome_then _ (c.as_it_stands.ensures places lengths (term_sound t h)) (λ n s. form_stands _ t h c.parts_in.ensures.0 c.if-parts_in-ne0.false s)
