-- The lines of the files so far stand behind the text.
use Rattle.std.proofs.Common.{◌≡◌, ◌++◌, take}
use Rattle.std.specs.List.{flat_map}
use Rattle.edf_receipt.specs.Receipts.{file_line}
use Rattle.edf_receipt.proofs.text.push_files.Given as goal

abbrev pub invariant-loop-file : goal.invariant-loop-file
invariant-loop-file l = l.text.items ≡ l.initial.text.items ++ flat_map file_line (take l.file-index l.files)
