use Rattle.edf_receipt.proofs.LineFacts.{text_tells_line}
use Rattle.edf_receipt.proofs.laws.a_receipt_tells_its_line.Goals as goal

pub returns : goal.returns
returns c = text_tells_line
