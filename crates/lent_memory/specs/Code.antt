-- What the tests of sizes answer, in terms of the definitions of packets.
-- About the code alone, proved against the definitions of packet_spec: nothing here has to be believed.
use Rattle.std.specs.Prelude.{◌≡◌, Bool, List, ℕ}
use Rattle.term_spec.specs.AtomList.{lent_list}
use Rattle.packet_spec.specs.declared.Pending.{Pending}
use Rattle.packet_spec.specs.Memory.{cache_of, memory_of, memory_of_size}

-- whether all lent memory is of its stated size: whatever the counts of the lists and the record are
pub record MemoryFits (r : Bool) (cache cache_lengths plain_places plain_lengths pending_places pending_lengths gather : List ℕ) : Type 0 where
  pub fits_told : (plain_n pending_n : ℕ) (pending : Pending)
      → r ≡ memory_of_size
      (memory_of (cache_of cache cache_lengths) (lent_list plain_n plain_places plain_lengths) (lent_list pending_n pending_places pending_lengths) pending gather)
