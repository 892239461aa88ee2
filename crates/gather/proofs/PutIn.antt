-- One member put in: what the two stores do to the array of next members, and where the walk to them ends. Assumes nothing.
use Prim.Native.Nat.{ℕ, ◌≤◌, ◌<◌}
use mathlib.Core.Path.{◌≡◌, refl, sym, ap, ◌∙◌, subst, subst₂}
use mathlib.Core.Logic.{◌⊎◌, inl, inr, ◌≢◌}
use mathlib.Core.Bool.{Bool}
use mathlib.Core.List.{List}
use native.Mathlib.Omega.{arith}
use lib.Dec.{T, ltb}
use lib.ListN.{length, get_or, set, length-set}
use lib.Seq.{get_or-set_same, get_or-set_other}
use borrow.Author.Tests.{ltb-true, ltb-false}
use Rattle.theory.proofs.Words.{either, split, same_or_not}
use Rattle.gather.specs.NextMembers.{nobody, also, NextAbove, Holds, Rises, PutIn}
use Rattle.gather.proofs.Members.{also_e, also_l, also_r}

-- ---- two stores: y behind x, and z behind y

module _ (a : List ℕ) (x y z : ℕ) (long : length a ≡ 4096) (low : x < y) (fits : y < 4096) where
  -- at x stands y
  at_x : get_or (set (set a y z) x y) x 0 ≡ y
  at_x = get_or-set_same (set a y z) x y 0 (omega (arith, length-set a y z))

  -- at y stands z
  at_y : get_or (set (set a y z) x y) y 0 ≡ z
  at_y = get_or-set_other (set a y z) x y y 0 (omega arith) ∙ get_or-set_same a y z 0 (omega arith)

  -- every other place is as it was
  at_other : (w : ℕ) → w ≢ x → w ≢ y → get_or (set (set a y z) x y) w 0 ≡ get_or a w 0
  at_other w d f = get_or-set_other (set a y z) x w y 0 d ∙ get_or-set_other a y w z 0 f

  -- they keep every place pointing upward
  pub put_rises : Rises a → y < z → Rises (set (set a y z) x y)
  put_rises u high =
      record {
        long = length-set (set a y z) x y ∙ length-set a y z ∙ long;
        rise = λ w l.
            either (same_or_not w x)
            (λ e. omega (arith, ap (λ i. get_or (set (set a y z) x y) i 0) e, at_x))
            (λ d. either (same_or_not w y)
            (λ e. omega (arith, ap (λ i. get_or (set (set a y z) x y) i 0) e, at_y))
            (λ f. omega (arith, at_other w d f, u.rise w l)));
      }

-- a place that points upward may be stored anywhere
pub rises_set : (a : List ℕ) (p n : ℕ) → Rises a → p < 4096 → p < n → Rises (set a p n)
rises_set a p n u fits up =
    record {
      long = length-set a p n ∙ u.long;
      rise = λ w l.
          either (same_or_not w p)
          (λ e. omega (arith, ap (λ i. get_or (set a p n) i 0) e, get_or-set_same a p n 0 (omega (arith, u.long))))
          (λ d. omega (arith, get_or-set_other a p w n 0 d, u.rise w l));
    }

-- ---- what the array holds

-- with n stored at p, the set of p has no member yet
pub holds_nobody : (a : List ℕ) (p n : ℕ) → Rises a → p < n → n ≤ 4096 → Holds nobody n p (set a p n)
holds_nobody a p n u up few =
    record {
      bounds = λ q t. absurd t;
      next = λ x s.
          either s
          (λ e.
          let f : get_or (set a p n) x 0 ≡ n = ap (λ i. get_or (set a p n) i 0) e ∙ get_or-set_same a p n 0 (omega (arith, u.long)) in
          record { above = omega arith; within = omega arith; member = λ l. absurd (omega arith); between = λ q l m t. t })
          (λ t. absurd t);
    }

-- sets with the same members are held by the same array
holds_same : (S R : ℕ → Bool) (n p : ℕ) (a : List ℕ) → ((q : ℕ) → T (R q) → T (S q)) → ((q : ℕ) → T (S q) → T (R q)) → Holds S n p a → Holds R n p a
holds_same S R n p a f g h =
    record {
      bounds = λ q t. h.bounds q (f q t);
      next = λ x w.
          let b = h.next x (either w (λ e. inl e) (λ t. inr (f x t))) in
          record { above = b.above; within = b.within; member = λ l. g (get_or a x 0) (b.member l); between = λ q l m t. b.between q l m (f q t) };
    }

module _ (S : ℕ → Bool) (n p x y : ℕ) (a : List ℕ) (h : Holds S n p a) (long : length a ≡ 4096) (few : n ≤ 4096) (fits : y < n)
    (here : (x ≡ p) ⊎ T (S x)) (low : x < y) (high : y < get_or a x 0) where
  -- the array with y put in behind x
  abbrev put_behind : List ℕ
  put_behind = set (set a y (get_or a x 0)) x y

  -- nothing of the set lies below p
  from_p : (w : ℕ) → (w ≡ p) ⊎ T (S w) → p ≤ w
  from_p w s = either s (λ e. omega arith) (λ t. omega (arith, h.bounds w t))

  -- after x now comes y
  next_x : NextAbove (also S y) n x y
  next_x =
      let b = h.next x here in
      record {
        above = low;
        within = omega arith;
        member = λ l. also_r S y y refl;
        between = λ q l m t. either (also_e S y q t) (λ s. b.between q l (omega arith) s) (λ e. omega arith);
      }

  -- after y comes what came after x
  next_y : NextAbove (also S y) n y (get_or a x 0)
  next_y =
      let b = h.next x here in
      record {
        above = high;
        within = b.within;
        member = λ l. also_l S y (get_or a x 0) (b.member l);
        between = λ q l m t. either (also_e S y q t) (λ s. b.between q (omega arith) m s) (λ e. omega arith);
      }

  -- after any other comes what came
  next_other : (w : ℕ) → w ≢ x → w ≢ y → (w ≡ p) ⊎ T (S w) → NextAbove (also S y) n w (get_or a w 0)
  next_other w d f s =
      let b = h.next w s in
      let c = h.next x here in
      record {
        above = b.above;
        within = b.within;
        member = λ l. also_l S y (get_or a w 0) (b.member l);
        between = λ q l m t.
            either (also_e S y q t)
            (λ r. b.between q l m r)
            (λ e. apart b c (omega arith) (omega arith));
      }
    where
      -- y lies behind x and so behind no other
      apart : NextAbove S n w (get_or a w 0) → NextAbove S n x (get_or a x 0) → w < y → y < get_or a w 0 → ⊥
      apart b c l m =
          either (split (ltb w x))
          (λ e.
          let k = ltb-true w x e in
          either here (λ i. omega (arith, from_p w s)) (λ t. b.between x k (omega arith) t))
          (λ e.
          let k : x < w = omega (arith, ltb-false w x e) in
          either s (λ i. omega (arith, from_p x here)) (λ t. c.between w k (omega arith) t))

  -- the set with y is held once y stands behind x, and behind y what stood behind x
  put_holds : Holds (also S y) n p put_behind
  put_holds =
      let small : y < 4096 = omega arith in
      record {
        bounds = λ q t. either (also_e S y q t) (λ s. h.bounds q s) (λ e. (omega (arith, from_p x here), omega arith));
        next = λ w s.
            either (same_or_not w x)
            (λ e. subst₂ (λ i v. NextAbove (also S y) n i v) (sym e) (sym (ap (λ i. get_or put_behind i 0) e ∙ at_x a x y (get_or a x 0) long low small)) next_x)
            (λ d. either (same_or_not w y)
            (λ e. subst₂ (λ i v. NextAbove (also S y) n i v) (sym e) (sym (ap (λ i. get_or put_behind i 0) e ∙ at_y a x y (get_or a x 0) long low small)) next_y)
            (λ f. subst (λ v. NextAbove (also S y) n w v) (sym (at_other a x y (get_or a x 0) long low small w d f)) (next_other w d f (either s (λ e. inl e) (λ t. either (also_e S y w t) (λ r. inr r) (λ e. absurd (f e)))))));
      }

-- ---- the walk to the place where y belongs

-- the walk from `from` has come to x, behind which stands z
pub record Reached (from y : ℕ) (a : List ℕ) (x z : ℕ) : Type 0 where
  pub low : x < y
  pub next : z ≡ get_or a x 0
  pub reach : (S : ℕ → Bool) (n p : ℕ) → Holds S n p a → y < n → (from ≡ p) ⊎ T (S from) → (x ≡ p) ⊎ T (S x)

-- it has not begun
pub reached_start : (x y z : ℕ) (a : List ℕ) → x < y → z ≡ get_or a x 0 → Reached x y a x z
reached_start x y z a l e = record { low = l; next = e; reach = λ S n p h m w. w }

-- it goes on where what stands behind is still below y
pub reached_more : {from y : ℕ} {a : List ℕ} {x z : ℕ} → Reached from y a x z → z < y → Reached from y a z (get_or a z 0)
reached_more {from} {y} {a} {x} {z} r l =
    record {
      low = l;
      next = refl;
      reach = λ S n p h m w.
          let b = h.next x (r.reach S n p h m w) in
          inr (subst (λ i. T (S i)) (sym r.next) (b.member (omega (arith, r.next))));
    }

-- it ends where y stands already
pub put_there : {from y : ℕ} {a : List ℕ} {x z : ℕ} → Reached from y a x z → z ≡ y → PutIn from y a a
put_there {from} {y} {a} {x} {z} r e =
    record {
      holds = λ S n p h few m w.
          let b = h.next x (r.reach S n p h m w) in
          let f : get_or a x 0 ≡ y = sym r.next ∙ e in
          let t : T (S y) = subst (λ i. T (S i)) f (b.member (omega arith)) in
          holds_same S (also S y) n p a (λ q s. either (also_e S y q s) (λ i. i) (λ i. subst (λ k. T (S k)) (sym i) t)) (λ q s. also_l S y q s) h;
    }

-- or where y belongs between x and what stands behind it, which then stands behind y
pub put_between : {from y : ℕ} {a : List ℕ} {x z : ℕ} → Rises a → y < 4096 → Reached from y a x z → y < z
    → PutIn from y a (set (set a y z) x y) × (get_or (set (set a y z) x y) y 0 ≡ z)
put_between {from} {y} {a} {x} {z} u fits r high = (
  rw r.next
      (record {
        holds = λ S n p h few m w. put_holds S n p x y a h u.long few m (r.reach S n p h m w) r.low (omega (arith, r.next));
      }),
  at_y a x y z u.long r.low fits,
)
