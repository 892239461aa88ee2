-- Rows that wait for the turns of their entries. Assumes nothing.
use Rattle.std.specs.Prelude.{ℕ, suc, ◌+◌, ◌≤◌, ◌<◌, ◌≡◌, cond, List, [], ◌∷◌, T, ltb, length, get_or, set}
use Rattle.rules.specs.Words.{has}
use Rattle.rules.specs.Graph.{Graph}
use Rattle.theory.specs.Rows.{InRow, Rows, count}

-- x is a position of a hierarchy of at most 4,096
pub record Turn (G : Graph) (x : ℕ) : Type 0 where
  pub rows : Rows (count G.first) G
  pub few : count G.first ≤ 4096
  pub under : x < count G.first

-- what stands below x stays
pub record SameBelow (x : ℕ) (l l' : List ℕ) : Type 0 where
  pub below : (q : ℕ) → q < x → get_or l' q 0 ≡ get_or l q 0

-- the rows that are met from k on, each once: one more than a row's position stands for the row, 0 for the end
unfoldable pub RowChain : (links : List ℕ) (k : ℕ) (rows : List ℕ) → Type 0
RowChain links k [] = k ≡ 0
RowChain links k (z ∷ rows) = (k ≡ suc z) × (T (has rows z) → ⊥) × RowChain links (get_or links z 0) rows

-- the row of z waits for q: q is its entry at the place that `places` has for it
pub record Waits (G : Graph) (places : List ℕ) (z q : ℕ) : Type 0 where
  pub row : InRow G z (get_or places z 0)
  pub entry : get_or G.heads (get_or places z 0) 0 ≡ q

-- the rows below m that wait for q are those that are met from k on
pub record Line (G : Graph) (m q k : ℕ) (links places : List ℕ) : Type 0 where
  pub rows : List ℕ
  pub chain : RowChain links k rows
  pub each : (z : ℕ) → T (has rows z) → (z < m) × Waits G places z q
  pub all : (z : ℕ) → z < m → Waits G places z q → T (has rows z)

-- in the turn of x: each row below x stands at one of its places, from which on it has no entry below x, or at its end; the rows that wait for
-- x are met from k on, those that wait for a later turn from where its link says
pub record Waiting (G : Graph) (x k : ℕ) (links places : List ℕ) : Type 0 where
  pub links_long : length links ≡ 4096
  pub places_long : length places ≡ 4096
  pub from : (z : ℕ) → z < x → get_or G.first z 0 ≤ get_or places z 0
  pub ahead : (z i : ℕ) → z < x → InRow G z i → get_or places z 0 ≤ i → x ≤ get_or G.heads i 0
  pub here : Line G x x k links places
  pub later : (q : ℕ) → x < q → Line G x q (get_or links q 0) links places

-- the rows below m are past entries below `top` only
pub record PassedBelow (G : Graph) (m top : ℕ) (places : List ℕ) : Type 0 where
  pub below : (z i : ℕ) → z < m → InRow G z i → i < get_or places z 0 → get_or G.heads i 0 < top

-- where the row of z waits if it is not to wait before place i: there, or, with nothing behind it, nowhere, which is its end
unfoldable pub wait_at : (first : List ℕ) (z i : ℕ) → ℕ
wait_at first z i = cond (ltb (i + 1) (get_or first (z + 1) 0)) i (get_or first (z + 1) 0)

-- the links once the row of z waits at its place i, in front of those that wait there; past its end it waits no more
unfoldable pub queued : (G : Graph) (links : List ℕ) (z i : ℕ) → List ℕ
queued G links z i =
    let y = get_or G.heads i 0 in
    cond (ltb i (get_or G.first (z + 1) 0)) (set (set links z (get_or links y 0)) y (z + 1)) links
