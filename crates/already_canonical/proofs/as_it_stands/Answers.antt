-- `as_it_stands` meets its contract. By the kind.
use Rattle.std.proofs.lemmas.Option.{IfSome_then}
use Rattle.already_canonical.proofs.Stands.{sound_in, stands_in, tagged_70, tagged_106, tagged_113, counted_104, counted_116, bodied_109, bodied_119}
use native.Mathlib.Omega.{arith}
use Rattle.already_canonical.proofs.as_it_stands.Goals as goal

pub returns-in-2 : goal.returns-in-2
returns-in-2 c = λ places lengths s. IfSome_then c.tagged.result c.tagged.ensures
    (λ r t. stands_in c.args.msg.now places lengths c.args.word _ _ _ c.kind_in-kind.ensures.0 c.in-2.is c.offset_in-at.ensures.0 _ _ c.parts_in-n.ensures.0 (tagged_70 c.args.msg.now places lengths _ _ (λ i. omega (arith, c.type_inv.msg i)) t))

pub returns-in-3 : goal.returns-in-3
returns-in-3 c = λ places lengths s. IfSome_then c.bodied.result c.bodied.ensures
    (λ r t. stands_in c.args.msg.now places lengths c.args.word _ _ _ c.kind_in-kind.ensures.0 c.in-3.is c.offset_in-at.ensures.0 _ _ c.parts_in-n.ensures.0 (bodied_119 c.args.msg.now places lengths _ _ (λ i. omega (arith, c.type_inv.msg i)) t (sound_in c.args.msg.now places lengths c.args.word _ _ _ c.kind_in-kind.ensures.0 c.in-3.is c.offset_in-at.ensures.0 s)))

pub returns-in-4 : goal.returns-in-4
returns-in-4 c = λ places lengths s. IfSome_then c.counted.result c.counted.ensures
    (λ r t. stands_in c.args.msg.now places lengths c.args.word _ _ _ c.kind_in-kind.ensures.0 c.in-4.is c.offset_in-at.ensures.0 _ _ c.parts_in-n.ensures.0 (counted_104 c.args.msg.now places lengths _ _ (λ i. omega (arith, c.type_inv.msg i)) t))

pub returns-in-5 : goal.returns-in-5
returns-in-5 c = λ places lengths s. IfSome_then c.list_stands.result c.list_stands.ensures
    (λ r t. stands_in c.args.msg.now places lengths c.args.word _ _ _ c.kind_in-kind.ensures.0 c.in-5.is c.offset_in-at.ensures.0 _ _ c.parts_in-n.ensures.0 (tagged_106 c.args.msg.now places lengths _ _ (λ i. omega (arith, c.type_inv.msg i)) t.0 t.1))

pub returns-in-7 : goal.returns-in-7
returns-in-7 c = λ places lengths s. IfSome_then c.bodied-in-7.result c.bodied-in-7.ensures
    (λ r t. stands_in c.args.msg.now places lengths c.args.word _ _ _ c.kind_in-kind.ensures.0 c.in-7.is c.offset_in-at.ensures.0 _ _ c.parts_in-n.ensures.0 (bodied_109 c.args.msg.now places lengths _ _ (λ i. omega (arith, c.type_inv.msg i)) t (sound_in c.args.msg.now places lengths c.args.word _ _ _ c.kind_in-kind.ensures.0 c.in-7.is c.offset_in-at.ensures.0 s)))

pub returns-in-9 : goal.returns-in-9
returns-in-9 c = λ places lengths s. IfSome_then c.counted-in-9.result c.counted-in-9.ensures
    (λ r t. stands_in c.args.msg.now places lengths c.args.word _ _ _ c.kind_in-kind.ensures.0 c.in-9.is c.offset_in-at.ensures.0 _ _ c.parts_in-n.ensures.0 (counted_116 c.args.msg.now places lengths _ _ (λ i. omega (arith, c.type_inv.msg i)) t))

pub returns-in-13 : goal.returns-in-13
returns-in-13 c = λ places lengths s. IfSome_then c.tagged-in-13.result c.tagged-in-13.ensures
    (λ r t. stands_in c.args.msg.now places lengths c.args.word _ _ _ c.kind_in-kind.ensures.0 c.in-13.is c.offset_in-at.ensures.0 _ _ c.parts_in-n.ensures.0 (tagged_113 c.args.msg.now places lengths _ _ (λ i. omega (arith, c.type_inv.msg i)) t))
