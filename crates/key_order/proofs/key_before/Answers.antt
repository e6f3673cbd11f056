-- `key_before` meets its contract.
use Rattle.key_order.proofs.Forms.{term_below}
use Rattle.key_order.proofs.Compared.{forms_there, compared_standing}
use Rattle.key_order.proofs.key_before.Goals as goal

pub form_stands-requires : goal.form_stands-requires
form_stands-requires c = term_below _ c.requires.first_ready.held

pub form_stands-requires-in-Some : goal.form_stands-requires-in-Some
form_stands-requires-in-Some c = term_below _ c.requires.second_ready.held

pub bounds-rows-a : goal.bounds-rows-a
bounds-rows-a c = term_below _ c.requires.first_ready.held

pub bounds-rows-b : goal.bounds-rows-b
bounds-rows-b c = term_below _ c.requires.second_ready.held

pub bytes_before-requires : goal.bytes_before-requires
bytes_before-requires c = forms_there c.in-Some.ensures c.in-Some-form_stands.ensures _ _ c.offset_in.ensures.0 c.offset_in-in-Some-form_stands.ensures.0 c.requires

pub returns-in-Some-form_stands : goal.returns-in-Some-form_stands
returns-in-Some-form_stands c = compared_standing c.in-Some.ensures c.in-Some-form_stands.ensures _ _ c.offset_in.ensures.0 c.offset_in-in-Some-form_stands.ensures.0 _ _ c.bytes_before.ensures
