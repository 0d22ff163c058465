use Rattle.std.proofs.Common.{◌≡◌, ◌^◌, pos, ◌-ℤ◌, ◌≤ℤ◌, false, unsigned_abs}
use Rattle.edf_stream.specs.Conforming.{Conforms}
use Rattle.edf_stream.specs.records.Readers.{is_current}
use Rattle.edf_pace.specs.Premises.{OfFile, OfFiles}
use Rattle.edf_pace.specs.walk.Watching.{moved_export, two_files}
use Rattle.edf_pace.specs.walk.Readings.{ExportMoves, OriginalMoves, export_at, original_at}
use Rattle.edf_pace.specs.walk.Shown.{last_end_by}
use Rattle.edf_pace.proofs.walk.lockstep.walk_on.Given as goal

abbrev pub invariant-loop-end : goal.invariant-loop-end
invariant-loop-end g l = record {
  original : OriginalMoves g.O.Source l.fn.original l.fn.o l.original l.o l.turn l.time;
  export : ExportMoves g.E.Source l.fn.export l.fn.e l.export l.e l.turn l.time;
  from : ((l.turn).from).ps ≤ℤ l.time.ps;
  ended : (l.turn).is_last ≡ false → is_current (l.export.reader).status ≡ false
      → OfFile (export_at g.E.Source l.fn.export l.fn.e (l.turn).setting (l.turn).from) (λ b. l.time.ps ≡ last_end_by b ((l.fn.export).reader).head (moved_export l.turn));
  fits : g.W.Watcher.fits (l.watch).watcher (l.fn.watch).frame;
  wants : g.W.Watcher.has_enough (l.watch).watcher ≡ false;
  lender : g.W.Watcher.lender (l.watch).watcher ≡ g.W.Watcher.lender (l.fn.watch).watcher;
  keeps : g.W.Watcher.keeps (l.watch).watcher ≡ g.W.Watcher.keeps (l.fn.watch).watcher;
  holds : OfFiles (original_at g.O.Source l.fn.original l.fn.o (l.turn).setting (l.turn).from) (export_at g.E.Source l.fn.export l.fn.e (l.turn).setting (l.turn).from)
      (λ a b. Conforms a ((l.fn.original).reader).head → Conforms b ((l.fn.export).reader).head
      → g.W.Watcher.holds (l.fn.watch).watcher (l.fn.watch).frame (two_files a ((l.fn.original).reader).head b ((l.fn.export).reader).head) ((l.turn).from).ps ((l.turn).from).ps
      → g.W.Watcher.holds (l.watch).watcher (l.fn.watch).frame (two_files a ((l.fn.original).reader).head b ((l.fn.export).reader).head) ((l.turn).from).ps l.time.ps);
}

abbrev pub decreases-loop-end : goal.decreases-loop-end
decreases-loop-end g l = unsigned_abs (pos (2 ^ 83) -ℤ l.time.ps)
