-- The listed edges of the row of x settled and marked no more, one after the other. Assumes nothing.
use Prim.Native.Nat.{ℕ, ◌+◌, ◌*◌, ◌≤◌, ◌<◌}
use mathlib.Core.Path.{◌≡◌, refl, sym, ap, ◌∙◌, subst}
use mathlib.Core.Logic.{◌⊎◌, inl, inr, ◌≢◌}
use mathlib.Core.Bool.{Bool, true, false}
use mathlib.Core.List.{List}
use native.Mathlib.Omega.{arith}
use lib.Dec.{T}
use lib.ListN.{length, get_or, set}
use Rattle.rules.specs.declared.Direction.{Direction}
use Rattle.rules.specs.declared.Direction.TheVariants.{Up, Down}
use Rattle.rules.specs.Graph.{Graph}
use Rattle.rules.specs.Hierarchy.{EdgeCosts}
use Rattle.theory.specs.Rows.{InRow, Lists, count}
use Rattle.theory.proofs.Words.{either, same_or_not}
use Rattle.theory.proofs.Rows.{next_row, in_heads}
use Rattle.rules.specs.Lent.{chosen}
use Rattle.turns.specs.Edges.{edges_of}
use Rattle.reconsider.specs.Flags.{flagged}
use Rattle.reconsider.specs.Marks.{says}
use Rattle.reconsider.proofs.Flags.{word_in}
use Rattle.reconsider.proofs.Said.{says_no, says_same, said, said_here}
use Rattle.change.specs.Turning.{Listed, Settled, SettledAt, as_before, made_new, Spot, Cleared, Noted}
use Rattle.change.proofs.Walked.{both_stored}

-- ---- one edge

module _ (C D : EdgeCosts) (k y : ℕ) where
  abbrev Same_in : Direction → Type 0
  Same_in d = get_or (chosen d C) k 0 ≡ get_or (chosen d D) y 0

  -- in one direction the cost is another
  pub moved_way : (Same_in Up → ⊥) ⊎ (Same_in Up × (Same_in Down → ⊥)) → (d : Direction) × (get_or (chosen d C) k 0 ≢ get_or (chosen d D) y 0)
  moved_way e = either e (λ n. (Up, n)) (λ n. (Down, n.1))

  -- it is the same in both
  pub moved_none : Same_in Up → Same_in Down → (d : Direction) → get_or (chosen d C) k 0 ≡ get_or (chosen d D) y 0
  moved_none a b Up = a
  moved_none a b Down = b

-- ---- the list

-- place q is one of the first t listed
pub record Done (G : Graph) (x : ℕ) (todo : List ℕ) (t q : ℕ) : Type 0 where
  pub at : ℕ
  pub soon : at < t
  pub there : get_or todo at 0 ≡ q

module _ {G : Graph} {x : ℕ} {todo : List ℕ} where
  -- there is none before the first
  done_none : (q : ℕ) → Done G x todo 0 q → ⊥
  done_none q a = omega (arith, a.soon)

  -- one of them is also one of the first t + 1
  done_more : {t q : ℕ} → Done G x todo t q → Done G x todo (t + 1) q
  done_more a = record { at = a.at; soon = omega (arith, a.soon); there = a.there }

  -- one of the first t + 1 that is not the last of them is one of the first t
  done_back : {t q : ℕ} → Done G x todo (t + 1) q → q ≢ get_or todo t 0 → Done G x todo t q
  done_back {t} a n =
      either (same_or_not a.at t)
      (λ d. absurd (n (sym a.there ∙ ap (λ v. get_or todo v 0) d)))
      (λ d. record { at = a.at; soon = omega (arith, a.soon); there = a.there })

  -- which the last is not
  done_yet : {t : ℕ} {marks : List Bool} {c : ℕ} → Listed G marks x todo c → t < c → Done G x todo t (get_or todo t 0) → ⊥
  done_yet {t} L l a = omega (arith, L.once a.at t a.soon l, a.there)

-- ---- the marks

-- the first t listed edges of the row of x are not marked any more, and nothing is marked anew
pub record Clearing (G : Graph) (x : ℕ) (todo : List ℕ) (t : ℕ) (marks₀ marks : List Bool) : Type 0 where
  pub long : length marks ≡ length marks₀
  pub gone : (q : ℕ) → Done G x todo t q → T (says marks (get_or G.heads q 0)) → ⊥
  pub less : (y : ℕ) → T (says marks y) → T (says marks₀ y)

-- one more whose mark is taken away
clearing_more : {G : Graph} {x : ℕ} {todo : List ℕ} {t : ℕ} {marks₀ marks marks' : List Bool} → Clearing G x todo t marks₀ marks
    → let y = get_or G.heads (get_or todo t 0) 0 in y < length marks₀ → marks' ≡ set marks y false → Clearing G x todo (t + 1) marks₀ marks'
clearing_more {G} {todo = todo} {t = t} {marks = marks} {marks' = marks'} K b em =
    let k = get_or todo t 0 in
    let y = get_or G.heads k 0 in
    let s = said marks marks' y false em (omega (arith, K.long)) in
    let fewer : (q : ℕ) → T (says marks' q) → T (says marks q) =
    λ q t. either (same_or_not q y)
    (λ d. absurd (says_no marks' q (ap (λ v. get_or marks' v false) d ∙ s.here) t))
    (λ d. says_same marks' marks q (sym (s.off q d)) t) in
    record {
      long = s.long ∙ K.long;
      gone = λ q a t.
          either (same_or_not q k)
          (λ d. says_no marks' (get_or G.heads q 0) (ap (λ v. get_or marks' v false) (ap (λ v. get_or G.heads v 0) d) ∙ s.here) t)
          (λ d. K.gone q (done_back a d) (fewer (get_or G.heads q 0) t));
      less = λ q t. K.less q (fewer q t);
    }

-- ---- the row

-- the first t of the c listed edges of the row of x are settled
pub record Settling (G : Graph) (marks₀ : List Bool) (D : EdgeCosts) (x : ℕ) (todo : List ℕ) (c : ℕ) (C₀ : EdgeCosts) (flags₀ : List ℕ) (dirty₀ : List Bool) (t : ℕ)
    (C : EdgeCosts) (flags : List ℕ) (dirty marks : List Bool) : Type 0 where
  pub within : t ≤ c
  pub clearing : Clearing G x todo t marks₀ marks
  pub noted : Noted G x flags₀ flags dirty₀ dirty
  pub up_long : length C.up ≡ length C₀.up
  pub down_long : length C.down ≡ length C₀.down
  pub words : length flags ≡ length flags₀
  pub others : (q : ℕ) → (Done G x todo t q → ⊥)
      → ((d : Direction) → get_or (chosen d C) q 0 ≡ get_or (chosen d C₀) q 0) × (flagged flags q ≡ flagged flags₀ q)
  pub here : (d : Direction) (q : ℕ) → Done G x todo t q → get_or (chosen d C) q 0 ≡ get_or (chosen d D) (get_or G.heads q 0) 0
  pub flag_i : (d : Direction) (q : ℕ) → Done G x todo t q → get_or (chosen d C₀) q 0 ≢ get_or (chosen d D) (get_or G.heads q 0) 0 → T (flagged flags q)
  pub flag_e : (q : ℕ) → Done G x todo t q → T (flagged flags q)
      → T (flagged flags₀ q) ⊎ ((d : Direction) × (get_or (chosen d C₀) q 0 ≢ get_or (chosen d D) (get_or G.heads q 0) 0))

module _ {G : Graph} {marks₀ : List Bool} {x : ℕ} {todo : List ℕ} {c : ℕ} where
  -- none yet
  pub settling_start : {D C : EdgeCosts} {flags : List ℕ} {dirty : List Bool} → Settling G marks₀ D x todo c C flags dirty 0 C flags dirty marks₀
  settling_start =
      record {
        within = omega arith;
        clearing = record { long = refl; gone = λ q a. absurd (done_none q a); less = λ y t. t };
        noted = record { long = refl; here = λ q r t. inl t; full = λ t. inl t; stay = λ t. t; off = λ z n. refl };
        up_long = refl;
        down_long = refl;
        words = refl;
        others = λ q n. (λ d. refl, refl);
        here = λ w q a. absurd (done_none q a);
        flag_i = λ w q a. absurd (done_none q a);
        flag_e = λ q a. absurd (done_none q a);
      }

  module _ {C₀ : EdgeCosts} (M : Lists G C₀) (under : x < count G.first) (L : Listed G marks₀ x todo c) {t : ℕ} (l : t < c) where
    abbrev k : ℕ
    k = get_or todo t 0

    abbrev y : ℕ
    y = get_or G.heads k 0

    -- the next one is an edge of the row
    settling_in : InRow G x k
    settling_in = L.row t l

    -- so its place is one of the lists, and its entry a position
    pub settling_reads : (k < length G.heads) × (y < 4096)
    settling_reads = ((in_heads M.rows x k under settling_in).1, omega (arith, M.few, M.rows.below x k under settling_in))

    module _ {D : EdgeCosts} {flags₀ : List ℕ} {dirty₀ : List Bool} {C : EdgeCosts} {flags : List ℕ} {dirty marks : List Bool}
        (K : Settling G marks₀ D x todo c C₀ flags₀ dirty₀ t C flags dirty marks) where
      -- and it has a flag
      pub settling_spot : edges_of G ≤ length flags₀ * 64 → Spot C (length flags) k y × (x < 4096)
      settling_spot f =
          let h = (in_heads M.rows x k under settling_in).0 in (
            record {
              up_in = omega (arith, K.up_long, M.up_long);
              down_in = omega (arith, K.down_long, M.down_long);
              word = word_in k (edges_of G) (length flags) h (omega (arith, K.words));
              seat = omega (arith, settling_reads.1);
            },
            omega (arith, M.few),
          )

      -- it stands as it did at the entry to the row
      as_it_was : ((d : Direction) → get_or (chosen d C) k 0 ≡ get_or (chosen d C₀) k 0) × (flagged flags k ≡ flagged flags₀ k)
      as_it_was = K.others k (done_yet L l)

      -- an edge that stays as it was
      stays : {marks' : List Bool} → Clearing G x todo (t + 1) marks₀ marks' → ((d : Direction) → get_or (chosen d C) k 0 ≡ get_or (chosen d D) y 0)
          → Settling G marks₀ D x todo c C₀ flags₀ dirty₀ (t + 1) C flags dirty marks'
      stays m g =
          record {
            within = omega arith;
            clearing = m;
            noted = K.noted;
            up_long = K.up_long;
            down_long = K.down_long;
            words = K.words;
            others = λ q n. K.others q (λ a. n (done_more a));
            here = λ d q a. either (same_or_not q k) (λ f. rw f (g d)) (λ f. K.here d q (done_back a f));
            flag_i = λ d q a n.
                either (same_or_not q k)
                (λ f.
                let n' : get_or (chosen d C₀) k 0 ≢ get_or (chosen d D) (get_or G.heads k 0) 0 =
                subst (λ v. get_or (chosen d C₀) v 0 ≢ get_or (chosen d D) (get_or G.heads v 0) 0) f n in
                absurd (n' (sym (as_it_was.0 d) ∙ g d)))
                (λ f. K.flag_i d q (done_back a f) n);
            flag_e = λ q a m.
                either (same_or_not q k)
                (λ f. inl (subst (λ v. T (flagged flags₀ v)) (sym f) (subst T as_it_was.1 (subst (λ v. T (flagged flags v)) f m))))
                (λ f. K.flag_e q (done_back a f) m);
          }

      -- one edge more
      pub settling_more : {C' : EdgeCosts} {flags' : List ℕ} {dirty' marks' : List Bool} → length dirty₀ ≡ 4096 → length marks₀ ≡ 4096
          → SettledAt D x k y C flags dirty marks C' flags' dirty' marks'
          → Settling G marks₀ D x todo c C₀ flags₀ dirty₀ (t + 1) C' flags' dirty' marks'
      settling_more b a (as_before g ec ef ed em) =
          rw (ec, ef, ed)
          (stays (clearing_more K.clearing (omega (arith, settling_reads.1)) em) g)
      settling_more {C'} {flags'} {dirty'} b a (made_new w n ec F ed em) =
          let h = (in_heads M.rows x k under settling_in).0 in
          let o = both_stored C C' k (λ d. get_or (chosen d D) y 0) ec (omega (arith, K.up_long, M.up_long)) (omega (arith, K.down_long, M.down_long)) in
          let s = said dirty dirty' x true ed (omega (arith, K.noted.long, M.few)) in
          record {
            within = omega arith;
            clearing = clearing_more K.clearing (omega (arith, settling_reads.1)) em;
            noted = record {
              long = s.long ∙ K.noted.long;
              here = λ q r t. inr (said_here s);
              full = λ t. inr (omega (arith, settling_in.low, settling_in.high, next_row G x));
              stay = λ t. said_here s;
              off = λ z f. s.off z f ∙ K.noted.off z f;
            };
            up_long = (o Up).long ∙ K.up_long;
            down_long = (o Down).long ∙ K.down_long;
            words = F.long ∙ K.words;
            others = λ q f.
                let d : q ≢ k = λ g. f record { at = t; soon = omega arith; there = sym g } in
                let b = K.others q (λ a. f (done_more a)) in
                (λ c. (o c).off q d ∙ b.0 c, F.off q d ∙ b.1);
            here = λ d q a.
                either (same_or_not q k)
                (λ g. rw g (o d).here)
                (λ g. (o d).off q g ∙ K.here d q (done_back a g));
            flag_i = λ d q a c.
                either (same_or_not q k)
                (λ g. subst (λ v. T (flagged flags' v)) (sym g) F.here)
                (λ g. subst T (sym (F.off q g)) (K.flag_i d q (done_back a g) c));
            flag_e = λ q a c.
                either (same_or_not q k)
                (λ g.
                inr (
                  w,
                  subst (λ v. get_or (chosen w C₀) v 0 ≢ get_or (chosen w D) (get_or G.heads v 0) 0) (sym g)
                      (λ f. n (as_it_was.0 w ∙ f)),
                ))
                (λ g. K.flag_e q (done_back a g) (subst T (F.off q g) c));
          }

  -- the whole list
  pub settling_all : {D C₀ : EdgeCosts} {flags₀ : List ℕ} {dirty₀ : List Bool} {t : ℕ} {C : EdgeCosts} {flags : List ℕ} {dirty marks : List Bool} → Listed G marks₀ x todo c
      → Settling G marks₀ D x todo c C₀ flags₀ dirty₀ t C flags dirty marks → c ≤ t
      → Settled G marks₀ D x C₀ flags₀ C flags × (Cleared G x marks₀ marks × Noted G x flags₀ flags dirty₀ dirty)
  settling_all {t = t} L K l =
      let all : (q : ℕ) → InRow G x q → T (says marks₀ (get_or G.heads q 0)) → Done G x todo t q =
      λ q r m. let (s, h, e) = L.all q r m in record { at = s; soon = omega arith; there = e } in (
        record {
          up_long = K.up_long;
          down_long = K.down_long;
          words = K.words;
          others = λ q n.
              K.others q (λ a.
              let h : a.at < c = omega (arith, K.within, a.soon) in
              n (subst (λ v. InRow G x v) a.there (L.row a.at h))
              (subst (λ v. T (says marks₀ (get_or G.heads v 0))) a.there (L.marked a.at h)));
          here = λ d q r m. K.here d q (all q r m);
          flag_i = λ d q r m. K.flag_i d q (all q r m);
          flag_e = λ q r m. K.flag_e q (all q r m);
        },
        (
          record {
            long = K.clearing.long;
            gone = λ q r m. K.clearing.gone q (all q r (K.clearing.less (get_or G.heads q 0) m)) m;
            less = K.clearing.less;
          },
          K.noted,
        ),
      )
