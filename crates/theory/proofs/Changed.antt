-- The costs after a change of one arc: they satisfy the rule that defines them, and where the costs before satisfied the paper's equation
-- they satisfy it for the roads after. Assumes nothing.
use Prim.Native.Nat.{ℕ, zero, suc, ◌<◌, min}
use mathlib.Core.Path.{◌≡◌, refl, sym, ◌∙◌}
use mathlib.Core.Logic.{◌⊎◌, inl, inr, ◌≢◌}
use mathlib.Core.Bool.{Bool, cond, not, ◌&&◌, ◌||◌}
use native.Mathlib.Omega.{arith}
use lib.Dec.{T, eqb}
use Rattle.rules.specs.Words.{some, least}
use Rattle.rules.specs.Customised.{over, customised}
use Rattle.theory.proofs.Words.{either, split, true_holds, holds_true, true_false, or_l, or_r, or_e, and_i, and_l, and_r, some_i, some_e, least_same, neb_i, neb_e, eqb_e, same_test}
use Rattle.theory.proofs.Customised.{over_same, customised_only}
use Rattle.rules.specs.Changed.{differs, corner, reconsidered, new_within, new_cost}

-- ---- differences

-- where two do not differ they are the same, in both directions
pub same_there : (f g : ℕ → ℕ → ℕ) (a b : ℕ) → (T (differs f g a b) → ⊥) → (f a b ≡ g a b) × (f b a ≡ g b a)
same_there f g a b n =
    let p = not (eqb (f a b) (g a b)) in
    let q = not (eqb (f b a) (g b a)) in (
      either (split (eqb (f a b) (g a b))) (λ e. eqb_e (f a b) (g a b) (true_holds (eqb (f a b) (g a b)) e))
          (λ e. absurd (n (or_l p q (rw e tt)))),
      either (split (eqb (f b a) (g b a))) (λ e. eqb_e (f b a) (g b a) (true_holds (eqb (f b a) (g b a)) e))
          (λ e. absurd (n (or_r p q (rw e tt)))),
    )

-- they differ in one direction or the other
pub differ_i : (f g : ℕ → ℕ → ℕ) (a b : ℕ) → (f a b ≢ g a b) ⊎ (f b a ≢ g b a) → T (differs f g a b)
differ_i f g a b (inl n) = or_l (not (eqb (f a b) (g a b))) (not (eqb (f b a) (g b a))) (neb_i n)
differ_i f g a b (inr n) = or_r (not (eqb (f a b) (g a b))) (not (eqb (f b a) (g b a))) (neb_i n)

pub differ_e : (f g : ℕ → ℕ → ℕ) (a b : ℕ) → T (differs f g a b) → (f a b ≢ g a b) ⊎ (f b a ≢ g b a)
differ_e f g a b t =
    either (or_e (not (eqb (f a b) (g a b))) (not (eqb (f b a) (g b a))) t)
    (λ u. inl (neb_e u)) (λ u. inr (neb_e u))

pub differ_turn : (f g : ℕ → ℕ → ℕ) (a b : ℕ) → T (differs f g a b) → T (differs f g b a)
differ_turn f g a b t = either (differ_e f g a b t) (λ n. differ_i f g b a (inr n)) (λ n. differ_i f g b a (inl n))

-- ---- reconsidered

module _ (joined : ℕ → ℕ → Bool) (before after old : ℕ → ℕ → ℕ) where
  -- why an edge is reconsidered: its road, or a changed edge of a lower triangle
  pub data Why (new : ℕ → ℕ → ℕ) (a b : ℕ) : Type 0 where
    by_road : T (differs before after a b) → Why new a b
    by_near : (z : ℕ) → z < min a b → T (joined z a) → T (joined z b) → T (differs old new z a) → Why new a b
    by_far : (z : ℕ) → z < min a b → T (joined z a) → T (joined z b) → T (differs old new z b) → Why new a b

  -- the test says why
  pub why : (new : ℕ → ℕ → ℕ) (a b : ℕ) → T (reconsidered joined before after old new a b) → Why new a b
  unfolding reconsidered
  why new a b t =
      let low : ℕ → Bool = λ z. corner joined a b z && (differs old new z a || differs old new z b) in
      either (or_e (differs before after a b) (some low (min a b)) t)
      (λ d. by_road d)
      (λ s.
      let (z, l, u) = some_e low (min a b) s in
      let v : T (corner joined a b z) = and_l (corner joined a b z) (differs old new z a || differs old new z b) u in
      let w : T (differs old new z a || differs old new z b) = and_r (corner joined a b z) (differs old new z a || differs old new z b) u in
      let ja = and_l (joined z a) (joined z b) v in
      let jb = and_r (joined z a) (joined z b) v in
      either (or_e (differs old new z a) (differs old new z b) w) (λ d. by_near z l ja jb d) (λ d. by_far z l ja jb d))

  -- and any of the reasons passes it
  pub because : (new : ℕ → ℕ → ℕ) (a b : ℕ) → Why new a b → T (reconsidered joined before after old new a b)
  unfolding reconsidered
  because new a b (by_road d) =
      or_l (differs before after a b) (some (λ z. corner joined a b z && (differs old new z a || differs old new z b)) (min a b)) d
  because new a b (by_near z l ja jb d) =
      let low : ℕ → Bool = λ z. corner joined a b z && (differs old new z a || differs old new z b) in
      or_r (differs before after a b) (some low (min a b))
      (some_i low (min a b) z l
      (and_i (corner joined a b z) (differs old new z a || differs old new z b) (and_i (joined z a) (joined z b) ja jb)
      (or_l (differs old new z a) (differs old new z b) d)))
  because new a b (by_far z l ja jb d) =
      let low : ℕ → Bool = λ z. corner joined a b z && (differs old new z a || differs old new z b) in
      or_r (differs before after a b) (some low (min a b))
      (some_i low (min a b) z l
      (and_i (corner joined a b z) (differs old new z a || differs old new z b) (and_i (joined z a) (joined z b) ja jb)
      (or_r (differs old new z a) (differs old new z b) d)))

  -- both directions of an edge at once
  pub why_turn : (new : ℕ → ℕ → ℕ) (a b : ℕ) → Why new a b → Why new b a
  why_turn new a b (by_road d) = by_road (differ_turn before after a b d)
  why_turn new a b (by_near z l ja jb d) = by_far z (omega arith) jb ja d
  why_turn new a b (by_far z l ja jb d) = by_near z (omega arith) jb ja d

  -- costs that agree below
  abbrev Agree : (f g : ℕ → ℕ → ℕ) → ℕ → ℕ → Type 0
  Agree f g a b = (z : ℕ) → z < min a b → (f z a ≡ g z a) × (f a z ≡ g a z) × (f z b ≡ g z b) × (f b z ≡ g b z)

  differ_same : (f g : ℕ → ℕ → ℕ) (z a : ℕ) → f z a ≡ g z a → f a z ≡ g a z → T (differs old f z a) → T (differs old g z a)
  differ_same f g z a e d t = rw (sym e, sym d) t

  why_same : (f g : ℕ → ℕ → ℕ) (a b : ℕ) → Agree f g a b → Why f a b → Why g a b
  why_same f g a b h (by_road d) = by_road d
  why_same f g a b h (by_near z l ja jb d) = let e = h z l in by_near z l ja jb (differ_same f g z a e.0 e.1 d)
  why_same f g a b h (by_far z l ja jb d) = let e = h z l in by_far z l ja jb (differ_same f g z b e.2 e.3 d)

  agree_turn : (f g : ℕ → ℕ → ℕ) (a b : ℕ) → Agree f g a b → Agree g f a b
  agree_turn f g a b h z l = let e = h z l in (sym e.0, sym e.1, sym e.2, sym e.3)

  -- the same edges are reconsidered
  pub reconsidered_same : (f g : ℕ → ℕ → ℕ) (a b : ℕ) → Agree f g a b
      → reconsidered joined before after old f a b ≡ reconsidered joined before after old g a b
  reconsidered_same f g a b h =
      same_test (reconsidered joined before after old f a b) (reconsidered joined before after old g a b)
      (λ t. because g a b (why_same f g a b h (why f a b t)))
      (λ t. because f a b (why_same g f a b (agree_turn f g a b h) (why g a b t)))

  -- the rule from costs that agree below gives the same
  ruled_same : (f g : ℕ → ℕ → ℕ) (a b : ℕ) → Agree f g a b
      → cond (reconsidered joined before after old f a b) (least (over joined f a b) (after a b) (min a b)) (old a b)
      ≡ cond (reconsidered joined before after old g a b) (least (over joined g a b) (after a b) (min a b)) (old a b)
  ruled_same f g a b h =
      let e = reconsidered_same f g a b h in
      let d : least (over joined f a b) (after a b) (min a b) ≡ least (over joined g a b) (after a b) (min a b) =
      least_same (over joined f a b) (over joined g a b) (after a b) (min a b)
      (λ z l. over_same joined f g a b z (λ u v. let q = h z l in (q.1, q.2))) in
      rw (e, d) refl

  -- the counter does not matter as long as it is above the lower end
  new_settles : (k l a b : ℕ) → min a b < k → min a b < l
      → new_within joined before after old k a b ≡ new_within joined before after old l a b
  unfolding new_within
  new_settles zero l a b h g = absurd (omega arith)
  new_settles (suc k) zero a b h g = absurd (omega arith)
  new_settles (suc k) (suc l) a b h g =
      ruled_same (new_within joined before after old k) (new_within joined before after old l) a b
      (λ z i. (
        new_settles k l z a (omega arith) (omega arith),
        new_settles k l a z (omega arith) (omega arith),
        new_settles k l z b (omega arith) (omega arith),
        new_settles k l b z (omega arith) (omega arith),
      ))

  -- the rule of the change, from the costs then standing
  pub new_is : (a b : ℕ)
      → new_cost joined before after old a b
      ≡ cond (reconsidered joined before after old (new_cost joined before after old) a b)
      (least (over joined (new_cost joined before after old) a b) (after a b) (min a b)) (old a b)
  unfolding new_cost new_within
  new_is a b =
      ruled_same (new_within joined before after old (min a b)) (new_cost joined before after old) a b
      (λ z i. (
        new_settles (min a b) (suc (min z a)) z a (omega arith) (omega arith),
        new_settles (min a b) (suc (min a z)) a z (omega arith) (omega arith),
        new_settles (min a b) (suc (min z b)) z b (omega arith) (omega arith),
        new_settles (min a b) (suc (min b z)) b z (omega arith) (omega arith),
      ))

  -- an edge that changed was reconsidered
  pub changed_why : (a b : ℕ) → new_cost joined before after old a b ≢ old a b → Why (new_cost joined before after old) a b
  changed_why a b n =
      let new = new_cost joined before after old in
      either (split (reconsidered joined before after old new a b))
      (λ e. why new a b (true_holds (reconsidered joined before after old new a b) e))
      (λ e. absurd (n (new_is a b ∙ rw e refl)))

  -- in either direction
  pub differ_why : (a b : ℕ) → T (differs old (new_cost joined before after old) a b) → Why (new_cost joined before after old) a b
  differ_why a b t =
      let new = new_cost joined before after old in
      either (differ_e old new a b t)
      (λ n. changed_why a b (λ e. n (sym e)))
      (λ n. why_turn new b a (changed_why b a (λ e. n (sym e))))

  -- where the costs before satisfied the paper's equation, those after satisfy it for the roads after
  pub new_equation : ((a b : ℕ) → T (joined a b) → old a b ≡ least (over joined old a b) (before a b) (min a b))
      → (a b : ℕ) → T (joined a b)
      → new_cost joined before after old a b ≡ least (over joined (new_cost joined before after old) a b) (after a b) (min a b)
  new_equation eq a b j =
      let new = new_cost joined before after old in
      let r = reconsidered joined before after old new a b in
      either (split r)
      (λ e. new_is a b ∙ rw e refl)
      (λ e.
      let calm : Why new a b → ⊥ = λ w. true_false (sym (holds_true r (because new a b w)) ∙ e) in
      let roads : before a b ≡ after a b = (same_there before after a b (λ d. calm (by_road d))).0 in
      let kept : new a b ≡ old a b = new_is a b ∙ rw e refl in
      let below : least (over joined old a b) (after a b) (min a b) ≡ least (over joined new a b) (after a b) (min a b) =
      least_same (over joined old a b) (over joined new a b) (after a b) (min a b)
      (λ z l.
      over_same joined old new a b z
      (λ u v. ((same_there old new z a (λ d. calm (by_near z l u v d))).1, (same_there old new z b (λ d. calm (by_far z l u v d))).0))) in
      kept ∙ (rw roads at (eq a b j)) ∙ below)

  -- so they are the customised ones
  pub new_customised : ((a b : ℕ) → T (joined a b) → T (joined b a))
      → ((a b : ℕ) → T (joined a b) → old a b ≡ least (over joined old a b) (before a b) (min a b))
      → (a b : ℕ) → T (joined a b) → new_cost joined before after old a b ≡ customised joined after a b
  new_customised turn eq = customised_only joined after turn (new_cost joined before after old) (new_equation eq)

  -- what is not reconsidered stays, in both directions
  pub calm_same : (a b : ℕ) → (Why (new_cost joined before after old) a b → ⊥)
      → (new_cost joined before after old a b ≡ old a b) × (new_cost joined before after old b a ≡ old b a)
  calm_same a b n =
      let (e, d) = same_there old (new_cost joined before after old) a b (λ t. n (differ_why a b t)) in
      (sym e, sym d)

  -- only edges whose lower end a change can reach are reconsidered: the lower end of the changed road is reached, and with a position each
  -- higher one that is joined to it
  pub why_reached : (reached : ℕ → Type 0) (s : ℕ) → reached s → ((p q : ℕ) → p < q → T (joined p q) → reached p → reached q)
      → ((a b : ℕ) → a < b → T (differs before after a b) → a ≡ s)
      → (x y : ℕ) → x < y → Why (new_cost joined before after old) x y → reached x
  why_reached reached s start upward only x y = climb (suc x) x y (omega arith)
    where
      climb : (k x y : ℕ) → x < k → x < y → Why (new_cost joined before after old) x y → reached x
      climb zero x y h l w = absurd (omega arith)
      climb (suc k) x y h l (by_road d) = rw (only x y l d) start
      climb (suc k) x y h l (by_near z g u v d) = upward z x (omega arith) u (climb k z x (omega arith) (omega arith) (differ_why z x d))
      climb (suc k) x y h l (by_far z g u v d) = upward z x (omega arith) u (climb k z y (omega arith) (omega arith) (differ_why z y d))

  -- where no road changed nothing is reconsidered
  pub calm_why : ((a b : ℕ) → T (differs before after a b) → ⊥) → (a b : ℕ) → Why (new_cost joined before after old) a b → ⊥
  calm_why calm a b = sink (suc (min a b)) a b (omega arith)
    where
      sink : (k a b : ℕ) → min a b < k → Why (new_cost joined before after old) a b → ⊥
      sink zero a b h w = omega arith
      sink (suc k) a b h (by_road d) = calm a b d
      sink (suc k) a b h (by_near z g u v d) = sink k z a (omega arith) (differ_why z a d)
      sink (suc k) a b h (by_far z g u v d) = sink k z b (omega arith) (differ_why z b d)
