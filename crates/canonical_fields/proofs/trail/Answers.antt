-- `trail` meets its contract. By the content: each case says the label that the content says.
use Rattle.canonical_fields.specs.Shape.{after}
use Rattle.row_fields.specs.Meaning.{label_of}
use Rattle.canonical_fields.proofs.Leads.{trail_by, no_trail, sound_words}
use native.Mathlib.Omega.{arith}
use Rattle.canonical_fields.proofs.trail.Goals as goal

pub words_trail-requires : goal.words_trail-requires
words_trail-requires c = let args = c.args in
    let i = sound_words args.msg.now args.places.now args.content _ _ _ c.in-Reference.is c.requires in let f = i.few in omega arith

pub returns-in-Nothing : goal.returns-in-Nothing
unfolding label_of after
returns-in-Nothing c = let args = c.args in
    trail_by args.msg.now args.places.now args.content args.kind args.n _ c.in-Nothing.is (c.bare_trail.ensures _ _)

pub returns-in-Pid : goal.returns-in-Pid
unfolding label_of after
returns-in-Pid c = let args = c.args in
    trail_by args.msg.now args.places.now args.content args.kind args.n _ c.in-Pid.is (c.pid_trail.ensures args.n _ _)

pub returns-in-Port : goal.returns-in-Port
unfolding label_of after
returns-in-Port c = let args = c.args in
    trail_by args.msg.now args.places.now args.content args.kind args.n _ c.in-Port.is (c.port_trail.ensures args.n _ _)

pub returns-in-Reference : goal.returns-in-Reference
unfolding label_of after
returns-in-Reference c = let args = c.args in
    trail_by args.msg.now args.places.now args.content args.kind args.n _ c.in-Reference.is (c.words_trail.ensures args.n _ _ (sound_words args.msg.now args.places.now args.content _ _ _ c.in-Reference.is c.requires) (λ i. omega (arith, c.type_inv.msg i)))

pub returns-in_default : goal.returns-in_default
returns-in_default c = let args = c.args in
    no_trail args.msg.now args.places.now args.content args.kind args.n c.in_default.not-Nothing c.in_default.not-Pid c.in_default.not-Port c.in_default.not-Reference (c.no_trail.ensures _ _)
