-- "One closure without redoing the county", over any hierarchy: joined says which positions are joined, before and after what the arc in force
-- from one to another costs, old what the edges cost before the change. Assumes nothing.
use Rattle.std.specs.Prelude.{ℕ, zero, suc, min, Bool, true, cond, not, ◌&&◌, ◌||◌, eqb, ltb, length, get_or}
use Rattle.rules.specs.declared.Direction.TheVariants.{Up, Down}
use Rattle.rules.specs.Words.{some, least, total, how_many}
use Rattle.rules.specs.Graph.{Graph}
use Rattle.rules.specs.Hierarchy.{EdgeCosts, edge_costs}
use Rattle.rules.specs.Customised.{over, cost_list}

-- "its pair's cost in force changed"; "an edge whose up or down cost changed": in either direction
abbrev pub differs : (was is : ℕ → ℕ → ℕ) (a b : ℕ) → Bool
differs was is a b = not (eqb (was a b) (is a b)) || not (eqb (was b a) (is b a))

-- z is the lowest corner of a lower triangle of the edge between a and b: "each z below x joined to both"
abbrev pub corner : (joined : ℕ → ℕ → Bool) (a b z : ℕ) → Bool
corner joined a b z = joined z a && joined z b

-- "one is reconsidered if its pair's cost in force changed, or a lower triangle of it has an edge whose up or down cost changed"
unfoldable pub reconsidered : (joined : ℕ → ℕ → Bool) (before after old new : ℕ → ℕ → ℕ) (a b : ℕ) → Bool
unfolding some
reconsidered joined before after old new a b =
    differs before after a b
    || some (λ z. corner joined a b z && (differs old new z a || differs old new z b)) (min a b)

-- "edges go by ascending low end"; "It gets both costs by document 01's rule from those then standing, a sum of CLOSED or more being CLOSED;
-- no other edge changes": edges of lower low ends have had their turn, and k bounds how often the low end falls
unfoldable pub new_within : (joined : ℕ → ℕ → Bool) (before after old : ℕ → ℕ → ℕ) (k a b : ℕ) → ℕ
unfolding reconsidered least
new_within joined before after old zero a b = old a b
new_within joined before after old (suc k) a b =
    let standing = new_within joined before after old k in
    cond (reconsidered joined before after old standing a b) (least (over joined standing a b) (after a b) (min a b)) (old a b)

-- the cost from a to b after the change
unfoldable pub new_cost : (joined : ℕ → ℕ → Bool) (before after old : ℕ → ℕ → ℕ) (a b : ℕ) → ℕ
unfolding new_within
new_cost joined before after old a b = new_within joined before after old (suc (min a b)) a b

-- how many lower triangles an edge has
unfoldable pub triangles_of : (joined : ℕ → ℕ → Bool) (a b : ℕ) → ℕ
unfolding how_many
triangles_of joined a b = how_many (corner joined a b) (min a b)

-- how many the edges from x up have, of those that pass, among n positions
unfoldable pub triangles_from : (joined passes : ℕ → ℕ → Bool) (n x : ℕ) → ℕ
unfolding total triangles_of
triangles_from joined passes n x = total (λ y. cond (ltb x y && joined x y && passes x y) (triangles_of joined x y) 0) n

-- how many the edges among n positions have, of those that pass: each edge once, from its low end
unfoldable pub triangles : (joined passes : ℕ → ℕ → Bool) (n : ℕ) → ℕ
unfolding total triangles_from
triangles joined passes n = total (triangles_from joined passes n) n

-- "all lower triangles of the graph"
abbrev pub all_triangles : (joined : ℕ → ℕ → Bool) (n : ℕ) → ℕ
all_triangles joined n = triangles joined (λ x y. true) n

-- "how many lower triangles of reconsidered edges were looked at; this is the sum by definition"
unfoldable pub looked_at : (joined : ℕ → ℕ → Bool) (before after old : ℕ → ℕ → ℕ) (n : ℕ) → ℕ
unfolding triangles reconsidered new_cost
looked_at joined before after old n = triangles joined (reconsidered joined before after old (new_cost joined before after old)) n

-- the lists of both directions with these costs at the edges' places: "no other edge changes", so places past E stay
abbrev pub changed_lists : (n : ℕ) (G : Graph) (cost : ℕ → ℕ → ℕ) (C : EdgeCosts) → EdgeCosts
changed_lists n G cost C =
    edge_costs (cost_list n G cost Up (λ k. get_or C.up k 0) (length C.up)) (cost_list n G cost Down (λ k. get_or C.down k 0) (length C.down))
