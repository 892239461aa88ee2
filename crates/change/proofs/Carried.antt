-- All turns: what holds before each, that each leaves it, and that past the highest position that the change can reach nothing is left to do.
-- Assumes nothing.
use Prim.Native.Nat.{ℕ, zero, suc, ◌+◌, ◌*◌, ◌/◌, ◌%◌, ◌^◌, ◌≤◌, ◌<◌}
use mathlib.Core.Path.{◌≡◌, refl, sym, ap, ◌∙◌, subst}
use mathlib.Core.Logic.{◌⊎◌, inl, inr}
use mathlib.Core.Bool.{Bool, false}
use mathlib.Core.List.{List}
use native.Mathlib.Omega.{arith}
use native.Mathlib.Numerals.{add-one}
use native.Mathlib.Nat.{zero-div}
use lib.Dec.{T, ltb}
use lib.ListN.{length, get_or, set, replicate, length-replicate}
use borrow.Author.Tests.{ltb-true, ltb-false}
use Rattle.rules.specs.Words.{total}
use Rattle.rules.specs.Net.{Net, road_between}
use Rattle.roads.specs.declared.Roads.{Roads}
use Rattle.rules.specs.Graph.{Graph}
use Rattle.rules.specs.Hierarchy.{EdgeCosts, edge_costs, linked, held}
use Rattle.rules.specs.Changed.{differs, triangles_from, triangles, looked_at}
use Rattle.theory.specs.Rows.{InRow, count}
use Rattle.theory.proofs.Words.{either, split, eqb_e, same_or_not}
use Rattle.theory.proofs.Rows.{linked_e, linked_two, next_row}
use Rattle.theory.proofs.Changed.{Why, by_road, by_near, by_far, differ_why}
use Rattle.turns.specs.Edges.{At, Kept}
use Rattle.turns.specs.Waiting.{Turn, Waiting, wait_at, queued}
use Rattle.turns.specs.Met.{Met, AllMet, Gathered}
use Rattle.turns.proofs.Stored.{stored}
use Rattle.turns.proofs.Kept.{kept_none, kept_on, lists_kept}
use Rattle.turns.proofs.Waiting.{turn_of, waiting_none, waiting_next, wait_range}
use Rattle.reconsider.specs.Flags.{flagged}
use Rattle.reconsider.specs.Marks.{says, Clear}
use Rattle.reconsider.specs.Reaches.{Reaches, Begins, Top}
use Rattle.reconsider.proofs.Said.{says_no, says_same}
use Rattle.change.specs.Turning.{new_of, again, Ways, Standing, Carriage, Ready, Stepped}
use Rattle.change.specs.Carrying.{Carried}
use Rattle.change.proofs.Counted.{total_to}
use Rattle.change.proofs.Turned.{stays, uncounted}

-- ---- lists of one value throughout

same_at : {A : Type 0} (v : A) (n k : ℕ) → get_or (replicate n v) k v ≡ v
same_at v zero k = refl
same_at v (suc n) zero = refl
same_at v (suc n) (suc k) = same_at v n k

-- a list of noes says yes of none
pub noes_clear : (l : List Bool) → l ≡ replicate 4096 false → Clear l
noes_clear l e =
    record {
      long = ap length e ∙ length-replicate {A = Bool} 4096 false;
      none = λ y. says_no l y (ap (λ v. get_or v y false) e ∙ same_at false 4096 y);
    }

-- and words of zero flag none
zeros_flag : (l : List ℕ) (n k : ℕ) → l ≡ replicate n 0 → T (flagged l k) → ⊥
unfolding flagged
zeros_flag l n k e t =
    let z : get_or l (k / 64) 0 ≡ 0 = ap (λ v. get_or v (k / 64) 0) e ∙ same_at 0 n (k / 64) in
    let w : get_or l (k / 64) 0 / 2 ^ (k % 64) % 2 ≡ 0 = ap (λ v. v / 2 ^ (k % 64) % 2) z ∙ ap (λ v. v % 2) (zero-div (2 ^ (k % 64))) in
    omega (arith, eqb_e (get_or l (k / 64) 0 / 2 ^ (k % 64) % 2) 1 t)

-- what is asked of the row of x before it is put where it waits
pub carrying_wait : {G : Graph} {on : List Bool} {x i : ℕ} → Turn G x → Begins G on x i → (x + 1 < length G.first) × (i ≤ get_or G.first (x + 1) 0)
carrying_wait {G} {x = x} U B = (omega (arith, U.under, U.rows.long), omega (arith, B.to, next_row G x))

-- ---- before the turn of x

pub record Carrying (N : Net) (G : Graph) (lo hi : ℕ) (on : List Bool) (C₀ : EdgeCosts) (words x reach seen : ℕ) (C : EdgeCosts)
    (flags : List ℕ) (dirty marks : List Bool) (D : EdgeCosts) (todo links places : List ℕ) : Type 0 where
  pub reaches : Reaches G lo on
  pub within : x ≤ count G.first
  pub from : lo ≤ reach
  pub under : reach < count G.first
  pub waits : Waiting G x (get_or links x 0) links places
  pub skipped : (z i : ℕ) → z < x → InRow G z i → InRow G z (i + 1) → i < get_or places z 0 → (get_or G.heads i 0 < x) ⊎ (T (says on (get_or G.heads i 0)) → ⊥)
  pub ready : Ready G flags dirty marks D todo
  pub words_are : length flags ≡ words
  pub clean : (z : ℕ) → x ≤ z → T (says dirty z) → ⊥
  pub covered : (z k : ℕ) → z < x → InRow G z k → T (says dirty z) → get_or G.heads k 0 ≤ reach
  pub kept : Kept G C₀ C
  pub small : seen ≤ 16777216 * x
  pub turned : (before : ℕ → ℕ → ℕ) → Ways N lo hi before
      → Standing G before (road_between N) C₀ x C flags
      × (seen ≡ total (triangles_from (linked G) (again G before (road_between N) C₀) (count G.first)) x)

module _ {N : Net} {threads : Roads} {G : Graph} {C₀ : EdgeCosts} {words lo hi : ℕ} (A : Carriage N threads G C₀ words lo hi) where
  -- the lower end of the edge whose road changed is a position
  pub lo_turn : Turn G lo
  lo_turn = turn_of A.lists (linked_two A.lists.rows lo hi A.edge).0

  pub carrying_start : {on : List Bool} {flags : List ℕ} (zeros : List ℕ) (noes : List Bool) {links places : List ℕ} → zeros ≡ replicate 4096 0
      → noes ≡ replicate 4096 false → links ≡ replicate 4096 0 → places ≡ replicate 4096 0 → Reaches G lo on → length flags ≡ words
      → flags ≡ replicate (length flags) 0
      → Carrying N G lo hi on C₀ words 0 lo 0 C₀ flags noes noes (edge_costs zeros zeros) zeros links places
  unfolding total
  carrying_start {flags = flags} zeros noes {links} {places} ez en el ep H ew ef =
      let c = noes_clear noes en in
      let long = ap length ez ∙ length-replicate {A = ℕ} 4096 0 in
      let never : (k : ℕ) → T (flagged flags k) → ⊥ = λ k t. zeros_flag flags (length flags) k ef t in
      record {
        reaches = H;
        within = omega arith;
        from = omega arith;
        under = lo_turn.under;
        waits = waiting_none links places el (ap length ep ∙ length-replicate {A = ℕ} 4096 0);
        skipped = λ z i h. absurd (omega arith);
        ready = record {
          dirt = record { long = c.long; shown = λ z k h r t. absurd (never k t) };
          clear = c;
          seats = record { up_long = long; down_long = long };
          todo_long = long;
        };
        words_are = ew;
        clean = λ z h t. c.none z t;
        covered = λ z k h. absurd (omega arith);
        kept = kept_none G C₀;
        small = omega arith;
        turned = λ before w. (
          record {
            kept = kept_none G C₀;
            lower = λ p k h. absurd (omega arith);
            higher = λ d p k h l r. refl;
            flag_e = λ p k l r t. absurd (never k t);
            flag_i = λ p k h. absurd (omega arith);
          },
          refl,
        );
      }

  module _ {on : List Bool} {x reach seen : ℕ} {C : EdgeCosts} {flags : List ℕ} {dirty marks : List Bool} {D : EdgeCosts} {todo links places : List ℕ}
      (K : Carrying N G lo hi on C₀ words x reach seen C flags dirty marks D todo links places) where
    -- what is carried is as before
    pub carrying_carriage : Carriage N threads G C (length flags) lo hi
    carrying_carriage =
        record {
          lists = lists_kept A.lists K.kept;
          size_is = A.size_is;
          roads = A.roads;
          flags_long = rw K.words_are A.flags_long;
          rising = A.rising;
          edge = A.edge;
        }

    -- only a row with edges has a changed one
    pub carrying_full : {r : ℕ} {C' : EdgeCosts} {flags' : List ℕ} {dirty' : List Bool} → Stepped N G lo hi x C flags dirty C' flags' dirty' seen r
        → T (says dirty' x) → get_or G.first x 0 < get_or G.first (x + 1) 0
    carrying_full Z t = either (Z.dirty_full t) (λ u. absurd (K.clean x (omega arith) u)) (λ h. h)

    module _ (go : x ≤ reach) where
      -- x is a position
      pub carrying_turn : Turn G x
      carrying_turn = turn_of A.lists (omega (arith, K.under))

      -- the rows that are met: all that have x and something behind it, if x can be reached
      pub carrying_met : {m : ℕ} {met' spots' places' : List ℕ} → Gathered G x places m met' spots' places'
          → Met G x m met' spots' × (T (says on x) → AllMet G x m met')
      carrying_met M = (
        M.met_rows,
        λ t. record {
          all = λ z a h r q e.
              M.all z a h r e
              (either (split (ltb a (get_or places z 0)))
              (λ s.
              absurd (either (K.skipped z a h r q (ltb-true a (get_or places z 0) s))
              (λ u. omega arith) (λ u. u (subst (λ v. T (says on v)) (sym e) t))))
              (λ s. ltb-false a (get_or places z 0) s));
        },
      )

      -- the place at which the row of x waits
      pub carrying_queue : {b i : ℕ} → Begins G on x b → i ≡ wait_at G.first x b → Turn G x × (get_or G.first x 0 ≤ i) × (i ≤ get_or G.first (x + 1) 0)
      carrying_queue {b} {i} B e =
          let (l, h, p) = wait_range G.first x b i e (carrying_wait carrying_turn B).1 in
          (carrying_turn, omega (arith, B.from), h)

      -- the next turn
      pub carrying_more : {m reach' b i seen' : ℕ} {C' : EdgeCosts} {flags' : List ℕ} {dirty' marks' : List Bool} {D' : EdgeCosts} {todo' links₁ places₁ met' spots' links' places' : List ℕ}
          → Waiting G x 0 links₁ places₁ → Gathered G x places m met' spots' places₁
          → Stepped N G lo hi x C flags dirty C' flags' dirty' seen seen' → Ready G flags' dirty' marks' D' todo'
          → Top G dirty' x reach reach' → Begins G on x b → i ≡ wait_at G.first x b → links' ≡ queued G links₁ x i → places' ≡ set places₁ x i
          → Carrying N G lo hi on C₀ words (x + 1) reach' seen' C' flags' dirty' marks' D' todo' links' places'
      unfolding total
      carrying_more {b = b} {dirty' = dirty'} {places₁ = places₁} {places' = places'} W M Z E P B ei el ep =
          let U = carrying_turn in
          let s = stored places₁ places' x _ ep (omega (arith, W.places_long, U.under, U.few)) in
          record {
            reaches = K.reaches;
            within = omega (arith, U.under);
            from = omega (arith, K.from, P.grows);
            under = P.under;
            waits = waiting_next U (carrying_queue B ei).1 el ep W;
            skipped = λ z i h r q g.
                either (same_or_not z x)
                (λ f.
                let p : InRow G x (i + 1) = subst (λ v. InRow G v (i + 1)) f q in
                inr (B.off i (subst (λ v. InRow G v i) f r)
                ((wait_range G.first x b _ ei (carrying_wait U B).1).2 i (omega (arith, ap (λ v. get_or places' v 0) f, s.here)) (omega (arith, p.high, next_row G x)))))
                (λ f.
                either (M.moved z i (omega arith) r q (omega (arith, s.off z f)))
                (λ u. either (K.skipped z i (omega arith) r q u) (λ v. inl (omega arith)) (λ v. inr v))
                (λ u. inl (omega arith)));
            ready = E;
            words_are = Z.words ∙ K.words_are;
            clean = λ z h t. K.clean z (omega arith) (says_same dirty' dirty z (sym (Z.dirty_off z (λ f. omega arith))) t);
            covered = λ z k h r t.
                either (same_or_not z x)
                (λ f. P.covers (subst (λ v. T (says dirty' v)) f t) k (subst (λ v. InRow G v k) f r))
                (λ f. omega (arith, P.grows, K.covered z k (omega arith) r (says_same dirty' dirty z (sym (Z.dirty_off z f)) t)));
            kept = kept_on K.kept Z.kept;
            small = omega (arith, K.small, Z.few);
            turned = λ before w.
                let f = triangles_from (linked G) (again G before (road_between N) C₀) (count G.first) in
                let (S, e) = K.turned before w in
                let (S', d) = Z.turned before C₀ w S in
                let t : total f (suc x) ≡ total f x + f x = refl in
                (S', omega (arith, ap (total f) (add-one x)));
          }

    -- ---- after the last turn

    module _ (end : reach < x) (before : ℕ → ℕ → ℕ) (w : Ways N lo hi before) where
      abbrev after : ℕ → ℕ → ℕ
      after = road_between N

      abbrev new : ℕ → ℕ → ℕ
      new = new_of G before after C₀

      abbrev Reason : ℕ → ℕ → Type 0
      Reason = Why (linked G) before after (held G C₀) new

      abbrev S : Standing G before after C₀ x C flags
      S = (K.turned before w).0

      -- a changed edge of a row that had its turn ends no higher than the change can reach
      low_end : (z y : ℕ) → z < x → z < y → T (linked G z y) → T (differs (held G C₀) new z y) → y ≤ reach
      low_end z y h l j d =
          let zn = (linked_two A.lists.rows z y j).0 in
          let (k, r, e) = linked_e A.lists.rows z y j l in
          let f = S.flag_i z k h zn r (subst (λ v. T (differs (held G C₀) new z v)) (sym e) d) in
          omega (arith, K.covered z k h r (K.ready.dirt.shown z k zn r f))

      -- above that no edge has one below it that changed, if none that had no turn is reconsidered
      lower_still : (p z q : ℕ) → x ≤ p → z < p → p ≤ q → T (linked G z q) → T (differs (held G C₀) new z q) → (x ≤ z → Reason z q → ⊥) → ⊥
      lower_still p z q h zp pq j d none =
          either (split (ltb z x))
          (λ s. omega (arith, low_end z q (ltb-true z x s) (omega arith) j d))
          (λ s. none (ltb-false z x s) (differ_why (linked G) before after (held G C₀) z q d))

      -- and none is
      unmoved : (b p y : ℕ) → p < b → x ≤ p → p < y → Reason p y → ⊥
      unmoved zero p y h g l r = omega arith
      unmoved (suc b) p y h g l (by_road d) = omega (arith, (w.only p y l d).0, K.from)
      unmoved (suc b) p y h g l (by_near z m u v d) =
          lower_still p z p g (omega arith) (omega arith) u d (λ k r. unmoved b z p (omega arith) k (omega arith) r)
      unmoved (suc b) p y h g l (by_far z m u v d) =
          lower_still p z y g (omega arith) (omega arith) v d (λ k r. unmoved b z y (omega arith) k (omega arith) r)

      rest : (p k : ℕ) → x ≤ p → p < count G.first → InRow G p k → Reason p (get_or G.heads k 0) → ⊥
      rest p k h l r = unmoved (suc p) p (get_or G.heads k 0) (omega arith) h (A.lists.rows.above p k l r)

      -- so all rows have their new costs, and all lower triangles that are to be looked at were
      all_new : ((p k : ℕ) → p < count G.first → InRow G p k → At G C new p k)
          × (seen ≡ looked_at (linked G) before after (held G C₀) (count G.first))
      unfolding looked_at triangles
      all_new =
          let L = carrying_carriage.lists in
          let n = count G.first in
          let f = triangles_from (linked G) (again G before after C₀) n in (
            λ p k l r.
                either (split (ltb p x))
                (λ s. S.lower p k (ltb-true p x s) l r)
                (λ s. let h = ltb-false p x s in stays L S p k h l r (rest p k h l r)),
            (K.turned before w).1
                ∙ sym (total_to f x n K.within
                (λ p h l. uncounted L S p (λ k r. rest p k h l r))),
          )

    -- all turns
    pub carrying_end : reach < x → Carried N G lo hi C₀ C seen
    carrying_end end = record { kept = K.kept; new = all_new end }
