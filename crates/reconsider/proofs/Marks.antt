-- Marks, place by place and row by row. Assumes nothing.
use Prim.Native.Nat.{ℕ, ◌+◌, ◌-◌, ◌≤◌, ◌<◌}
use mathlib.Core.Path.{◌≡◌, refl, sym, ap, ◌∙◌, subst}
use mathlib.Core.Logic.{inl, inr}
use mathlib.Core.Bool.{Bool, true, false, ◌||◌}
use mathlib.Core.List.{List}
use native.Mathlib.Omega.{arith}
use lib.Dec.{T, ltb}
use lib.ListN.{length, get_or, set}
use borrow.Author.Tests.{ltb-true, ltb-false}
use Rattle.rules.specs.Graph.{Graph}
use Rattle.theory.specs.Rows.{InRow}
use Rattle.theory.proofs.Words.{either, split, or_e, same_or_not}
use Rattle.theory.proofs.Rows.{next_row, in_row_i, in_heads, once, before}
use Rattle.turns.specs.Edges.{edges_of, Stretch}
use Rattle.turns.specs.Waiting.{Turn}
use Rattle.turns.specs.Met.{Met, AllMet}
use Rattle.turns.proofs.Stretches.{stretch_row, stretch_part}
use Rattle.reconsider.specs.Flags.{flagged}
use Rattle.reconsider.specs.Marks.{says, Dirty, MarkedOf, Cause, road_changed, row_changed, MarkedRow}
use Rattle.reconsider.proofs.Said.{says_no, said, said_here, said_still, said_only}

-- ---- the places, some after others

module _ {heads : List ℕ} {yes : ℕ → Bool} where
  -- places of which none is to be marked
  pub marked_off : {a b : ℕ} {marks : List Bool} → ((k : ℕ) → a ≤ k → k < b → T (yes k) → ⊥) → MarkedOf heads yes a b marks marks
  marked_off none = record { long = refl; hit = λ k h l t. absurd (none k h l t); stay = λ y t. t; made = λ y t. inl t }

  -- one place, which is
  pub marked_one : {j y : ℕ} {marks marks' : List Bool} → T (yes j) → y ≡ get_or heads j 0 → y < length marks → marks' ≡ set marks y true
      → MarkedOf heads yes j (j + 1) marks marks'
  marked_one {j} {y} {marks} {marks'} t ey seat e =
      let s = said marks marks' y true e seat in
      record {
        long = s.long;
        hit = λ k h l u.
            let same : j ≡ k = omega arith in
            subst (λ v. T (says marks' v)) (ey ∙ ap (λ v. get_or heads v 0) same) (said_here s);
        stay = said_still s;
        made = λ w u. either (said_only s w u) (λ d. inr (j, omega arith, omega arith, sym ey ∙ sym d, t)) (λ a. inl a);
      }

  -- those up to b, then those from b on
  pub marked_join : {a b c : ℕ} {marks₀ marks marks' : List Bool} → a ≤ b → b ≤ c → MarkedOf heads yes a b marks₀ marks → MarkedOf heads yes b c marks marks'
      → MarkedOf heads yes a c marks₀ marks'
  marked_join {b = b} ab bc M N =
      record {
        long = N.long ∙ M.long;
        hit = λ k h l t.
            either (split (ltb k b))
            (λ d. N.stay (get_or heads k 0) (M.hit k h (ltb-true k b d) t))
            (λ d. N.hit k (ltb-false k b d) l t);
        stay = λ y t. N.stay y (M.stay y t);
        made = λ y t.
            either (N.made y t)
            (λ u. either (M.made y u) (λ v. inl v) (λ v. inr (v.0, v.1, omega (arith, v.2), v.3, v.4)))
            (λ v. inr (v.0, omega (arith, v.1), v.2, v.3, v.4));
      }

  -- the end told in another way
  pub marked_end : {a b c : ℕ} {marks marks' : List Bool} → b ≡ c → MarkedOf heads yes a b marks marks' → MarkedOf heads yes a c marks marks'
  marked_end {a} {marks = marks} {marks' = marks'} e M = subst (λ v. MarkedOf heads yes a v marks marks') e M

module _ {heads : List ℕ} (flags : List ℕ) (i : ℕ) where
  -- where place i is flagged all others are to be marked
  pub marked_near : {a b : ℕ} {marks marks' : List Bool} → flagged flags i ≡ true → MarkedOf heads (λ k. true) a b marks marks'
      → MarkedOf heads (λ k. flagged flags i || flagged flags k) a b marks marks'
  marked_near e M = rw e M

  -- and where it is not, those that are flagged: it is not one of them
  pub marked_later : {b : ℕ} {marks marks' : List Bool} → flagged flags i ≡ false → MarkedOf heads (flagged flags) i b marks marks'
      → MarkedOf heads (λ k. flagged flags i || flagged flags k) (i + 1) b marks marks'
  marked_later e M =
      rw e (record {
        long = M.long;
        hit = λ k h l t. M.hit k (omega arith) l t;
        stay = M.stay;
        made = λ y t.
            either (M.made y t) (λ v. inl v)
            (λ v.
            either (same_or_not v.0 i) (λ d. absurd (subst T (ap (flagged flags) d ∙ e) v.4))
            (λ d. inr (v.0, omega (arith, v.1), v.2, v.3, v.4)));
      })

-- ---- the row of z from place i on

module _ {G : Graph} {z i : ℕ} (U : Turn G z) (r : InRow G z i) where
  -- the row's end is behind place i and no further than the edges go, and the row goes on up to it
  pub row_end : let end = get_or G.first (z + 1) 0 in (i < end) × (end ≤ edges_of G) × Stretch G.heads i end
  row_end =
      let end = get_or G.first (z + 1) 0 in
      let h : i < end = omega (arith, r.high, next_row G z) in
      let last = in_row_i G z (end - 1) (omega (arith, r.low)) (omega arith) in
      (h, omega (arith, in_heads U.rows z (end - 1) U.under last), stretch_part (stretch_row U r) (omega arith) (omega arith))

  -- a row without a flagged place marks nothing
  pub marked_clean : {flags : List ℕ} {dirty marks : List Bool} → Dirty G flags dirty → get_or dirty z false ≡ false
      → MarkedOf G.heads (λ k. flagged flags i || flagged flags k) (i + 1) (get_or G.first (z + 1) 0) marks marks
  marked_clean {flags} {dirty} D e =
      let clean : (k : ℕ) → InRow G z k → T (flagged flags k) → ⊥ = λ k s t. says_no dirty z e (D.shown z k U.under s t) in
      marked_off (λ k h l t.
      either (or_e (flagged flags i) (flagged flags k) t) (clean i r) (clean k (in_row_i G z k (omega (arith, r.low)) l)))

-- ---- the rows met, one after the other

-- the first t of them have had their turn
pub record Rowing (G : Graph) (flags met : List ℕ) (x : ℕ) (marks₀ : List Bool) (t : ℕ) (marks : List Bool) : Type 0 where
  pub long : length marks ≡ length marks₀
  pub stay : (y : ℕ) → T (says marks₀ y) → T (says marks y)
  pub done : (u z a b : ℕ) → u < t → get_or met u 0 ≡ z → InRow G z a → InRow G z b → get_or G.heads a 0 ≡ x → x < get_or G.heads b 0
      → T (flagged flags a || flagged flags b) → T (says marks (get_or G.heads b 0))
  pub made : (y : ℕ) → T (says marks y) → Cause G flags (says marks₀) x y

-- none yet
pub rowing_none : {G : Graph} {flags met : List ℕ} {x : ℕ} {marks : List Bool} → Rowing G flags met x marks 0 marks
rowing_none = record { long = refl; stay = λ y t. t; done = λ u z a b l. absurd (omega arith); made = λ y t. road_changed t }

module _ {G : Graph} {x : ℕ} (U : Turn G x) {m : ℕ} {met at : List ℕ} (M : Met G x m met at) where
  -- a row met is that of a position
  pub met_turn : {t : ℕ} → t < m → Turn G (get_or met t 0)
  met_turn {t} l = record { rows = U.rows; few = U.few; under = omega (arith, M.under t l, U.under) }

  module _ {flags : List ℕ} {marks₀ : List Bool} {t : ℕ} {marks : List Bool} (K : Rowing G flags met x marks₀ t marks) where
    -- one more
    pub rowing_more : {marks' : List Bool} → t < m → let z = get_or met t 0 in let i = get_or at t 0 in
        MarkedOf G.heads (λ k. flagged flags i || flagged flags k) (i + 1) (get_or G.first (z + 1) 0) marks marks' → Rowing G flags met x marks₀ (t + 1) marks'
    rowing_more {marks'} l D =
        let z = get_or met t 0 in
        let i = get_or at t 0 in
        let W = met_turn l in
        let zx = M.under t l in
        let r = M.row t l in
        let ex = M.entry t l in
        record {
          long = D.long ∙ K.long;
          stay = λ y s. D.stay y (K.stay y s);
          done = λ u q a b h eq ra rb ea xb f.
              either (same_or_not u t)
              (λ s.
              let same : q ≡ z = sym eq ∙ ap (λ v. get_or met v 0) s in
              let ra' = subst (λ v. InRow G v a) same ra in
              let rb' = subst (λ v. InRow G v b) same rb in
              let p = once W.rows z a i W.under ra' r (ea ∙ sym ex) in
              D.hit b (omega (arith, before G z i b (λ c d. W.rows.climb z c d W.under) r rb' (omega arith))) (omega (arith, rb'.high, next_row G z))
              (subst (λ v. T (flagged flags v || flagged flags b)) p f))
              (λ s. D.stay (get_or G.heads b 0) (K.done u q a b (omega arith) eq ra rb ea xb f));
          made = λ y s.
              either (D.made y s) (λ v. K.made y v)
              (λ v.
              let b = v.0 in
              let rb = in_row_i G z b (omega (arith, r.low, v.1)) v.2 in
              row_changed z i b zx r rb ex v.3 (omega (arith, W.rows.climb z i b W.under r rb (omega (arith, v.1)), v.3)) v.4);
        }

    -- all
    pub rowing_all : AllMet G x m met → length marks₀ ≡ 4096 → m ≤ t → MarkedRow G flags (says marks₀) x marks
    rowing_all A e l = record { long = K.long ∙ e; marked = each_marked A l; cause = K.made }
      where
        each_marked : AllMet G x m met → m ≤ t → (y : ℕ) → Cause G flags (says marks₀) x y → T (says marks y)
        each_marked A l y (road_changed s) = K.stay y s
        each_marked A l y (row_changed z a b zx ra rb ea eb xy f) =
            let ab = before G z a b (λ c d. U.rows.climb z c d (omega (arith, U.under))) ra rb (omega arith) in
            let behind : InRow G z (a + 1) = record { low = omega (arith, ra.low); high = omega (arith, rb.high) } in
            let (u, h, eu) = A.all z a zx ra behind ea in
            subst (λ v. T (says marks v)) eb (K.done u z a b (omega arith) eu ra rb ea (omega arith) f)
