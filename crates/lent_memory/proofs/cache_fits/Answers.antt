-- `cache_fits` meets its contract.
use Rattle.lent_memory.proofs.Sizes.{cache_not, cache_if}
use Rattle.lent_memory.proofs.cache_fits.Goals as goal

pub returns-then-cache-eq-CACHE_BYTES : goal.returns-then-cache-eq-CACHE_BYTES
returns-then-cache-eq-CACHE_BYTES c = cache_if _ _ c.if-cache-eq-CACHE_BYTES.true

pub returns-else-cache-eq-CACHE_BYTES : goal.returns-else-cache-eq-CACHE_BYTES
returns-else-cache-eq-CACHE_BYTES c = cache_not _ _ c.if-cache-eq-CACHE_BYTES.false
