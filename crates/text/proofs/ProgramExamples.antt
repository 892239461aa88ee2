-- Document 01's example of the program holds of the definition. Assumes nothing.
use mathlib.Core.Path.{◌≡◌, refl}
use Rattle.text.specs.Program.{answer}
use Rattle.text.specs.ProgramExamples.{n4_text, n4_answer}

pub n4_prints : answer n4_text ≡ n4_answer
unfolding answer n4_text n4_answer
n4_prints = refl
