-- `read_payload` meets its contract.
use Rattle.reader.specs.Code.{framing_of}
use Rattle.reader.proofs.read_payload.Goals as goal

pub returns-then-msg-le-FEW_BYTES : goal.returns-then-msg-le-FEW_BYTES
unfolding framing_of
returns-then-msg-le-FEW_BYTES c = c.read_sized.ensures

pub returns : goal.returns
unfolding framing_of
returns c = c.read_larger.ensures
