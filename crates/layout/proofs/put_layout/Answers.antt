-- `put_layout` meets its contract. Three numbers and the body, one after the other: `put_layout`.
use Rattle.layout.proofs.Bodies.{length_layout, put_layout}
use Rattle.layout.proofs.Puts.{put_length}
use Rattle.term_spec.proofs.Numbers.{length_in_bytes}
use native.Mathlib.Omega.{arith}
use Rattle.layout.proofs.put_layout.Goals as goal

pub put_number-second-requires : goal.put_number-second-requires
put_number-second-requires c = let args = c.args in
    let e = length_layout args.msg.now args.places.now args.layout in (c.requires.0.narrow_first, omega arith)

pub put_number-third-requires : goal.put_number-third-requires
put_number-third-requires c = let args = c.args in
    let e = length_layout args.msg.now args.places.now args.layout in
    let a = length_in_bytes args.layout.first.width args.layout.first.value in
    let k = put_length c.put_number-second.ensures in
    let p = c.put_number-second.ensures.past in
    (c.requires.0.narrow_second, omega arith)

pub put_number-fourth-requires : goal.put_number-fourth-requires
put_number-fourth-requires c = let args = c.args in
    let e = length_layout args.msg.now args.places.now args.layout in
    let a = length_in_bytes args.layout.first.width args.layout.first.value in
    let b = length_in_bytes args.layout.second.width args.layout.second.value in
    let k = put_length c.put_number-second.ensures in
    let p = c.put_number-second.ensures.past in
    let j = put_length c.put_number-third.ensures in
    let q = c.put_number-third.ensures.past in
    (c.requires.0.narrow_third, omega arith)

pub put_body-requires : goal.put_body-requires
put_body-requires c = let args = c.args in
    let e = length_layout args.msg.now args.places.now args.layout in
    let a = length_in_bytes args.layout.first.width args.layout.first.value in
    let b = length_in_bytes args.layout.second.width args.layout.second.value in
    let d = length_in_bytes args.layout.third.width args.layout.third.value in
    let k = put_length c.put_number-second.ensures in
    let p = c.put_number-second.ensures.past in
    let j = put_length c.put_number-third.ensures in
    let q = c.put_number-third.ensures.past in
    let i = put_length c.put_number-fourth.ensures in
    let r = c.put_number-fourth.ensures.past in
    (c.requires.0.inside, omega arith)

pub returns : goal.returns
returns c = let args = c.args in
    put_layout args.msg.now args.places.now args.layout c.put_number-second.ensures c.put_number-third.ensures c.put_number-fourth.ensures c.put_body.ensures
