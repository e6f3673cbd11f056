-- `framed_terms` meets its contract.
use Rattle.reader.proofs.Message.{framed_standalone, framed_payload}
use Rattle.reader.proofs.framed_terms.Goals as goal

pub returns-in-Standalone : goal.returns-in-Standalone
returns-in-Standalone c = framed_standalone _ _ _ _ _ _ _ c.in-Standalone.is c.standalone_terms.ensures

pub returns-in-Payload : goal.returns-in-Payload
returns-in-Payload c = framed_payload _ _ _ _ _ _ _ c.in-Payload.is c.payload_terms.ensures
