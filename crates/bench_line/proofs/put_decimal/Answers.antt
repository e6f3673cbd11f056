-- `put_decimal` meets its contract.
use Rattle.bench_line.proofs.Laws.{few_places, decimal_put}
use Rattle.bench_line.proofs.put_decimal.Goals as goal

pub returns : goal.returns
returns c =
    let d = c.decimal-k.ensures in
    decimal_put _ _ _ d.len d.digits c.put_text.ensures d.in_bounds.1 (few_places _ _ c.ranges.n.fits d.len)
