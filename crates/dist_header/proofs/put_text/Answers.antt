-- `put_text` meets its contract.
use mathlib.Core.List.{List}
use mathlib.Core.Path.{◌≡◌, ap, ◌∙◌}
use Prim.Native.Nat.{ℕ}
use native.Mathlib.Omega.{arith}
use lib.Seq.{sets}
use lib.ListN.{length, take, drop}
use Rattle.term_spec.specs.Text.{encodes}
use Rattle.dist_header.proofs.Texts.{fits_utf8, fits_latin, stored_utf8, same_bytes, same_characters}
use Rattle.dist_header.proofs.put_text.Goals as goal

pub copy-requires : goal.copy-requires
copy-requires c = let a = c.args in let p = c.requires in (p.inside, fits_utf8 a.utf8 a.packet.now a.from a.size a.at _ c.if-utf8.true p)

pub returns-then-utf8 : goal.returns-then-utf8
returns-then-utf8 c = let a = c.args in record {
  puts = λ cs e. (
    stored_utf8 a.utf8 a.packet.now a.from a.size c.if-utf8.true c.requires.inside cs e,
    c.copy.ensures ∙ ap (λ (bs : List ℕ). sets a.dst.now a.at bs) (same_bytes a.utf8 a.packet.now a.from a.size cs c.if-utf8.true e),
  );
}

pub put_latin1-requires : goal.put_latin1-requires
put_latin1-requires c = let a = c.args in let p = c.requires in (p.inside, omega (arith, p.small), fits_latin a.utf8 a.packet.now a.from a.size a.at _ c.if-utf8.false p)

pub returns : goal.returns
returns c = let a = c.args in record {
  puts = λ cs e.
      let k : take a.size (drop a.from a.packet.now) ≡ cs = same_characters a.utf8 a.packet.now a.from a.size cs c.if-utf8.false e in (
        c.put_latin1.ensures.0 ∙ ap (λ (bs : List ℕ). length (encodes bs)) k,
        c.put_latin1.ensures.1 ∙ ap (λ (bs : List ℕ). sets a.dst.now a.at (encodes bs)) k,
      );
}
