-- The bytes so far have been put. Assumes nothing.
use Rattle.std.proofs.Common.{◌≡◌, ◌++◌, take}
use Rattle.page.proofs.Page.put.Given as goal

abbrev pub invariant-loop-byte : goal.invariant-loop-byte
invariant-loop-byte g l = l.self ≡ take g.row.N (l.initial.self ++ take l.byte-index l.bytes)
