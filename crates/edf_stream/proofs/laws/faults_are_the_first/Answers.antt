use Rattle.edf_stream.proofs.FileFacts.{header_first, file_is}
use Rattle.edf_stream.proofs.laws.faults_are_the_first.Goals as goal

pub returns-clause-header : goal.returns-clause-header
returns-clause-header c = header_first

pub returns-clause-body : goal.returns-clause-body
returns-clause-body c r left file stands = file_is file r.head r.read stands.passed
