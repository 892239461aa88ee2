-- How far a change can reach: up from parent to parent, back from a row's end, and to the last entry of a row. Assumes nothing.
use Prim.Native.Nat.{ℕ, ◌+◌, ◌-◌, ◌≤◌, ◌<◌, max}
use mathlib.Core.Path.{◌≡◌, refl, sym, ap, ◌∙◌, subst}
use mathlib.Core.Logic.{◌⊎◌, inl, inr}
use mathlib.Core.Bool.{Bool, true, false}
use mathlib.Core.List.{List}
use native.Mathlib.Omega.{arith}
use lib.Dec.{T}
use lib.ListN.{length, get_or, set}
use Rattle.rules.specs.Graph.{Graph}
use Rattle.theory.specs.Rows.{InRow, count}
use Rattle.theory.proofs.Words.{either, same_or_not}
use Rattle.theory.proofs.Rows.{in_row_i, next_row, in_heads}
use Rattle.turns.specs.Waiting.{Turn}
use Rattle.reconsider.specs.Marks.{says, Clear}
use Rattle.reconsider.specs.Reaches.{Upward, Reaches, Begins, Top}
use Rattle.reconsider.proofs.Said.{says_no, said, said_here, said_still, said_only}

-- ---- from parent to parent

-- lo is said; what a said position's row has is said too, or is in the row of p
pub record Climbing (G : Graph) (lo p : ℕ) (on : List Bool) : Type 0 where
  pub under : p < count G.first
  pub long : length on ≡ 4096
  pub start : T (says on lo)
  pub entries : (q k : ℕ) → q < count G.first → InRow G q k → T (says on q)
      → T (says on (get_or G.heads k 0)) ⊎ ((j : ℕ) × InRow G p j × (get_or G.heads j 0 ≡ get_or G.heads k 0))

module _ {G : Graph} {lo : ℕ} (U : Turn G lo) where
  -- lo alone
  pub climbing_start : {on : List Bool} → Clear on → Climbing G lo lo (set on lo true)
  climbing_start {on} C =
      let s = said on (set on lo true) lo true refl (omega (arith, C.long, U.few, U.under)) in
      record {
        under = U.under;
        long = s.long ∙ C.long;
        start = said_here s;
        entries = λ q k l r t.
            either (said_only s q t)
            (λ d. inr (k, subst (λ v. InRow G v k) d r, refl))
            (λ u. absurd (C.none q u));
      }

  module _ {p : ℕ} {on : List Bool} (C : Climbing G lo p on) where
    -- the parent of p can be read, and is a position above p
    pub climbing_parent : get_or G.first p 0 < get_or G.first (p + 1) 0
        → let k = get_or G.first p 0 in (k < length G.heads) × (p < get_or G.heads k 0) × (get_or G.heads k 0 < 4096)
    climbing_parent h =
        let k = get_or G.first p 0 in
        let r : InRow G p k = in_row_i G p k (omega arith) (omega arith) in (
          (in_heads U.rows p k C.under r).1,
          omega (arith, U.rows.above p k C.under r),
          omega (arith, U.rows.below p k C.under r, U.few),
        )

    -- the parent is said next: what else the row of p has is in the parent's row
    pub climbing_more : get_or G.first p 0 < get_or G.first (p + 1) 0
        → let c = get_or G.heads (get_or G.first p 0) 0 in Climbing G lo c (set on c true)
    climbing_more h =
        let k = get_or G.first p 0 in
        let c = get_or G.heads k 0 in
        let s = said on (set on c true) c true refl (omega (arith, C.long, climbing_parent h)) in
        let r : InRow G p k = in_row_i G p k (omega arith) (omega arith) in
        record {
          under = omega (arith, U.rows.below p k C.under r);
          long = s.long ∙ C.long;
          start = said_still s lo C.start;
          entries = λ q i l v t.
              either (said_only s q t)
              (λ d. inr (i, subst (λ x. InRow G x i) d v, refl))
              (λ u.
              either (C.entries q i l v u)
              (λ y. inl (said_still s (get_or G.heads i 0) y))
              (λ y.
              let (j, vj, ej) = y in
              either (same_or_not j k)
              (λ d. inl (subst (λ x. T (says (set on c true) x)) (ap (λ x. get_or G.heads x 0) (sym d) ∙ ej) (said_here s)))
              (λ d.
              let (o, vo, eo) = U.rows.third p k j C.under r vj (omega (arith, vj.low)) in
              inr (o, vo, eo ∙ ej))));
        }

    -- where there is no parent, nothing is left out
    pub climbing_end : get_or G.first (p + 1) 0 ≤ get_or G.first p 0 → Reaches G lo on
    climbing_end h =
        record {
          upward = record {
            long = C.long;
            entries = λ q k l r t. either (C.entries q k l r t) (λ y. y) (λ y. absurd (omega (arith, y.1.low, y.1.high, next_row G p)));
          };
          start = C.start;
        }

-- ---- back from a row's end

module _ {G : Graph} {z : ℕ} (U : Turn G z) where
  module _ {i : ℕ} (a : get_or G.first z 0 ≤ i) (b : i < get_or G.first (z + 1) 0) where
    row : InRow G z i
    row = in_row_i G z i a b

    -- the entry at place i can be read
    pub begin_place : (i < length G.heads) × (get_or G.heads i 0 < 4096)
    begin_place = ((in_heads U.rows z i U.under row).1, omega (arith, U.few, U.rows.below z i U.under row))

    -- it cannot be reached: what is before it cannot be either, or it could
    pub begins_behind : {on : List Bool} → Upward G on → get_or on (get_or G.heads i 0) false ≡ false → Begins G on z (i + 1)
    begins_behind {on} W e =
        let not_said = says_no on (get_or G.heads i 0) e in
        record {
          from = omega arith;
          to = omega (arith, next_row G z);
          off = λ k v l t.
              either (same_or_not k i)
              (λ d. not_said (subst (λ x. T (says on (get_or G.heads x 0))) d t))
              (λ d.
              let (j, vj, ej) = U.rows.third z k i U.under v row (omega arith) in
              not_said (subst (λ x. T (says on x)) ej (W.entries (get_or G.heads k 0) j (U.rows.below z k U.under v) vj t)));
        }

  -- the row begins to wait at its start
  pub begins_first : (on : List Bool) → Begins G on z (get_or G.first z 0)
  begins_first on =
      record {
        from = omega arith;
        to = omega (arith, U.rows.rise z U.under);
        off = λ k v l t. absurd (omega (arith, v.low));
      }

-- ---- the last entry

module _ {G : Graph} {x : ℕ} (U : Turn G x) (h : get_or G.first x 0 < get_or G.first (x + 1) 0) where
  abbrev last : ℕ
  last = get_or G.first (x + 1) 0 - 1

  last_row : InRow G x last
  last_row = in_row_i G x last (omega arith) (omega arith)

  -- the last entry can be read
  pub last_place : last < length G.heads
  last_place = (in_heads U.rows x last U.under last_row).1

  -- it is a position, and the row has none above it
  last_is : (get_or G.heads last 0 < count G.first) × ((k : ℕ) → InRow G x k → get_or G.heads k 0 ≤ get_or G.heads last 0)
  last_is = (
    omega (arith, U.rows.below x last U.under last_row),
    λ k v.
        either (same_or_not k last)
        (λ d. let e : get_or G.heads k 0 ≡ get_or G.heads last 0 = ap (λ i. get_or G.heads i 0) d in omega arith)
        (λ d. omega (arith, U.rows.climb x k last U.under v last_row (omega (arith, v.high, next_row G x)))),
  )

module _ {G : Graph} {dirty : List Bool} {x reach : ℕ} (U : Turn G x) (l : reach < count G.first) where
  -- the row has no flagged edge
  pub top_clean : get_or dirty x false ≡ false → Top G dirty x reach reach
  top_clean e = record { under = l; grows = omega arith; covers = λ t. absurd (says_no dirty x e t) }

  -- the higher of its last entry and of what was reached before
  pub top_last : get_or G.first x 0 < get_or G.first (x + 1) 0 → Top G dirty x reach (max reach (get_or G.heads (get_or G.first (x + 1) 0 - 1) 0))
  top_last h =
      let (a, b) = last_is U h in record { under = omega arith; grows = omega arith; covers = λ t k v. omega (arith, b k v) }
