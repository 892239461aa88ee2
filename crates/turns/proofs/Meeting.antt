-- The rows that are met in the turn of x, one after the other: each is past x then, so none is met twice. Assumes nothing.
use Prim.Native.Nat.{ℕ, zero, suc, ◌+◌, ◌≤◌, ◌<◌}
use mathlib.Core.Path.{◌≡◌, refl, sym, ap, ◌∙◌, subst}
use mathlib.Core.Logic.{◌⊎◌, inl, inr, ◌≢◌}
use mathlib.Core.List.Memᴰ.{cases_cons as first_or_then}
use mathlib.Core.List.Memᴰ.{not-nil as not_in_empty}
use mathlib.Core.List.{List, [], ◌∷◌, Memᴰ as In}
use native.Mathlib.Omega.{arith}
use lib.ListN.{length, get_or, set}
use Rattle.rules.specs.Graph.{Graph}
use Rattle.theory.specs.Rows.{InRow}
use Rattle.theory.proofs.Words.{either, same_or_not}
use Rattle.theory.proofs.Simple.{Apart, empty, more, no_more}
use Rattle.turns.specs.Waiting.{Turn, Waiting, wait_at, queued}
use Rattle.turns.specs.Met.{Met, Gathered}
use Rattle.turns.proofs.Stored.{stored}
use Rattle.turns.proofs.Waiting.{met, met_next, met_moves, waiting_past}

-- ---- how many they are

-- what f gives for the numbers below m, as a list
given : (f : ℕ → ℕ) (m : ℕ) → List ℕ
given f zero = []
given f (suc m) = f m ∷ given f m

given_long : (f : ℕ → ℕ) (m : ℕ) → length (given f m) ≡ m
unfolding given
given_long f zero = refl
given_long f (suc m) = ap suc (given_long f m)

given_e : (f : ℕ → ℕ) (m y : ℕ) → In y (given f m) → (t : ℕ) × (t < m) × (f t ≡ y)
unfolding given
given_e f zero y i = absurd (not_in_empty i)
given_e f (suc m) y i =
    either (first_or_then i)
    (λ e. (m, omega arith, sym e))
    (λ j. let (t, l, e) = given_e f m y j in (t, omega arith, e))

given_apart : (f : ℕ → ℕ) (m : ℕ) → ((s t : ℕ) → s < t → t < m → f s ≢ f t) → Apart (given f m)
unfolding given
given_apart f zero h = empty
given_apart f (suc m) h =
    more (λ i. let (t, l, e) = given_e f m (f m) i in h t m l (omega arith) e) (given_apart f m (λ s t a b. h s t a (omega arith)))

-- different numbers below n are at most n
at_most_lem : (f : ℕ → ℕ) (m n : ℕ) → ((t : ℕ) → t < m → f t < n) → ((s t : ℕ) → s < t → t < m → f s ≢ f t) → m ≤ n
at_most_lem f m n u h =
    omega (arith, given_long f m, no_more n (given_apart f m h) (λ y i. let (t, l, e) = given_e f m y i in omega (arith, u t l)))

-- ---- in the turn of x

-- the first m of two lists are those met so far, and where they have x, which they are past; no row is past anything else that it was not past
-- at the start of the turn, but its last entry
pub record Meeting (G : Graph) (x : ℕ) (places₀ : List ℕ) (m : ℕ) (list at places : List ℕ) : Type 0 where
  pub met_rows : Met G x m list at
  pub past : (t : ℕ) → t < m → get_or at t 0 < get_or places (get_or list t 0) 0
  pub all : (z a : ℕ) → z < x → InRow G z a → get_or G.heads a 0 ≡ x → get_or places₀ z 0 ≤ a → a < get_or places z 0
      → (t : ℕ) × (t < m) × (get_or list t 0 ≡ z)
  pub moved : (z i : ℕ) → z < x → InRow G z i → InRow G z (i + 1) → i < get_or places z 0 → (i < get_or places₀ z 0) ⊎ (get_or G.heads i 0 ≡ x)

-- none
pub meeting_start : {G : Graph} {x : ℕ} {list at : List ℕ} (places : List ℕ) → length list ≡ 4096 → length at ≡ 4096
    → Meeting G x places 0 list at places
meeting_start places met_long at_long =
    record {
      met_rows = record {
        met_long = met_long;
        at_long = at_long;
        few = omega arith;
        under = λ t h. absurd (omega arith);
        row = λ t h. absurd (omega arith);
        entry = λ t h. absurd (omega arith);
        once = λ s t l h. absurd (omega arith);
      };
      past = λ t h. absurd (omega arith);
      all = λ z a h r g l b. absurd (omega arith);
      moved = λ z i h r n l. inl l;
    }

module _ {G : Graph} {x : ℕ} (U : Turn G x) {k m : ℕ} {places₀ list at links places : List ℕ} (K : Meeting G x places₀ m list at places)
    (W : Waiting G x k links places) where
  -- one more is met
  pub meeting_more : {links' places' list' at' : List ℕ} (z i j : ℕ) → k ≡ suc z → i ≡ get_or places z 0 → j ≡ wait_at G.first z (i + 1)
      → (links' ≡ queued G links z j) × (places' ≡ set places z j) → list' ≡ set list m z → at' ≡ set at m i
      → Meeting G x places₀ (m + 1) list' at' places'
  meeting_more {links'} {places'} {list'} {at'} z i j e ei ej (el, ep) em ea =
      let (zn, zx, r, ex) = met U W z i e ei in
      let (ij, jt, over) = met_next U W z i e ei ej in
      let M = K.met_rows in
      let s = met_moves U W z i e ei ij el ep in
      let seat : m < 4096 = omega (arith, M.few, U.under, U.few) in
      let n = stored list list' m z em (omega (arith, M.met_long)) in
      let p = stored at at' m i ea (omega (arith, M.at_long)) in
      let old : (t : ℕ) → t < m → get_or list' t 0 ≡ get_or list t 0 = λ t h. n.off t (λ f. omega arith) in
      let kept : (t : ℕ) → t < m → get_or at' t 0 ≡ get_or at t 0 = λ t h. p.off t (λ f. omega arith) in
      let new : (t : ℕ) → t < m + 1 → t ≢ m → t < m = λ t h f. omega arith in
      let last : (t : ℕ) → t ≡ m → (get_or list' t 0 ≡ z) × (get_or at' t 0 ≡ i) =
      λ t f. (ap (λ v. get_or list' v 0) f ∙ n.here, ap (λ v. get_or at' v 0) f ∙ p.here) in
      let off : (t : ℕ) → t < m → get_or list t 0 ≢ z =
      λ t h f.
      let rt : InRow G z (get_or at t 0) = subst (λ v. InRow G v (get_or at t 0)) f (M.row t h) in
      omega (arith, U.rows.climb z (get_or at t 0) i zn rt r (omega (arith, K.past t h, ap (λ v. get_or places v 0) f)), M.entry t h) in
      let under : (t : ℕ) → t < m + 1 → get_or list' t 0 < x =
      λ t h.
      either (same_or_not t m)
      (λ f. omega (arith, (last t f).0))
      (λ f. omega (arith, old t (new t h f), M.under t (new t h f))) in
      let once : (a b : ℕ) → a < b → b < m + 1 → get_or list' a 0 ≢ get_or list' b 0 =
      λ a b l h g.
      either (same_or_not b m)
      (λ f. off a (omega arith) (sym (old a (omega arith)) ∙ g ∙ (last b f).0))
      (λ f. M.once a b l (new b h f) (sym (old a (omega arith)) ∙ g ∙ old b (new b h f))) in
      record {
        met_rows = record {
          met_long = n.long ∙ M.met_long;
          at_long = p.long ∙ M.at_long;
          few = at_most_lem (λ t. get_or list' t 0) (m + 1) x under once;
          under = under;
          row = λ t h.
              either (same_or_not t m)
              (λ f. rw ((last t f).0, (last t f).1) r)
              (λ f. rw (old t (new t h f), kept t (new t h f)) (M.row t (new t h f)));
          entry = λ t h.
              either (same_or_not t m)
              (λ f. rw (last t f).1 ex)
              (λ f. rw (kept t (new t h f)) (M.entry t (new t h f)));
          once = once;
        };
        past = λ t h.
            either (same_or_not t m)
            (λ f. rw ((last t f).0, (last t f).1) (omega (arith, s.here)))
            (λ f.
            let l = new t h f in
            rw (old t l, kept t l) (omega (arith, s.off (get_or list t 0) (off t l), K.past t l)));
        all = λ w a h q g l b.
            either (same_or_not w z)
            (λ f. (m, omega arith, n.here ∙ sym f))
            (λ f. let (t, u, d) = K.all w a h q g l (omega (arith, s.off w f)) in (t, omega arith, old t u ∙ d));
        moved = λ w a h q o l.
            either (same_or_not w z)
            (λ f.
            either (same_or_not a i)
            (λ g. inr (ap (λ v. get_or G.heads v 0) g ∙ ex))
            (λ g.
            let b = over a (omega (arith, s.here, ap (λ v. get_or places' v 0) f)) (subst (λ v. InRow G v (a + 1)) f o) in
            K.moved w a h q o (omega (arith, ap (λ v. get_or places v 0) f))))
            (λ f. K.moved w a h q o (omega (arith, s.off w f)));
      }

  -- all are met
  pub meeting_end : k ≡ 0 → Gathered G x places₀ m list at places
  meeting_end e =
      record { met_rows = K.met_rows; all = λ z a h r g l. K.all z a h r g l (waiting_past U W e z a h r g); moved = K.moved }
