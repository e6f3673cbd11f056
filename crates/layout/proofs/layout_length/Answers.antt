-- `layout_length` meets its contract. Widths and body add up: `length_layout`.
use Rattle.layout.proofs.Bodies.{length_layout}
use native.Mathlib.Omega.{arith}
use Rattle.layout.proofs.layout_length.Goals as goal

pub returns : goal.returns
returns c = let args = c.args in
    let e = length_layout args.msg.now args.places.now args.layout in (omega arith, omega arith)
