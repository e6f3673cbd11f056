-- `written_before` meets its contract.
use native.Mathlib.Omega.{arith}
use Rattle.key_order.proofs.Compared.{first_fits, second_fits, both_there, compared_written}
use Rattle.key_order.proofs.written_before.Goals as goal

pub write_term-first-requires : goal.write_term-first-requires
write_term-first-requires c = first_fits c.requires

pub write_term-second-requires : goal.write_term-second-requires
write_term-second-requires c = second_fits c.requires c.write_term-first.ensures

pub overflow_sub-second : goal.overflow_sub-second
overflow_sub-second c = (both_there c.requires c.write_term-first.ensures c.write_term-second.ensures).0

pub bytes_before-requires : goal.bytes_before-requires
bytes_before-requires c = let b = both_there c.requires c.write_term-first.ensures c.write_term-second.ensures in (omega arith, omega arith)

pub returns : goal.returns
returns c = compared_written c.requires c.write_term-first.ensures c.write_term-second.ensures _ c.bytes_before.ensures
