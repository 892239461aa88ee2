-- The release, as one number: major * 10000 + minor * 100 + patch. Assumes nothing.
use Rattle.std.specs.Prelude.{ℕ}

-- 1.3.1
abbrev pub version : ℕ
version = 10301
