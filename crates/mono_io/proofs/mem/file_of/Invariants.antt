use Rattle.std.proofs.Common.{◌≡◌, drop}
use Rattle.mono_io.specs.Fakes.{entries_of, bytes_under}
use Rattle.mono_io.proofs.mem.file_of.Given as goal

abbrev pub invariant-loop-file : goal.invariant-loop-file
invariant-loop-file l = bytes_under (entries_of (drop l.file-index l.files)) l.name ≡ bytes_under (entries_of l.files) l.name
