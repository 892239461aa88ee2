-- The rows that are met in the turn of x, as they come in. Assumes nothing.
use Rattle.std.specs.Prelude.{ℕ}
use Rattle.rules.specs.Graph.{Graph}
use Rattle.turns.specs.declared.Met as noted
use Rattle.turns.specs.Met.{Met, AllMet}

-- they are rows below x, each once, with the places at which they have x
abbrev pub RowsMet : (G : Graph) (x : ℕ) (met : noted.Met) → Type 0
RowsMet G x met = Met G x met.count met.rows met.places

-- each row below x that has x and something behind it is among them
abbrev pub AllRowsMet : (G : Graph) (x : ℕ) (met : noted.Met) → Type 0
AllRowsMet G x met = AllMet G x met.count met.rows
