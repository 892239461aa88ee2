-- The members of a set, written into lent room one by one. Assumes nothing.
use Prim.Native.Nat.{ℕ, suc, ◌+◌, ◌-◌, ◌≤◌, ◌<◌}
use mathlib.Core.Path.{◌≡◌, refl, sym, ap, ◌∙◌}
use mathlib.Core.Logic.{inl, inr}
use mathlib.Core.Bool.{Bool}
use mathlib.Core.List.{List, [], ◌∷◌, ◌++◌, append_assoc, append-nil}
use native.Mathlib.Omega.{arith}
use native.Mathlib.Numerals.{add-one}
use lib.Dec.{T}
use lib.ListN.{length, get_or, take, set, length-append, length-set}
use lib.Seq.{take_all, take-suc-set}
use Rattle.rules.specs.Words.{those}
use Rattle.theory.proofs.Those.{those_here}
use Rattle.gather.specs.NextMembers.{Holds, members}
use Rattle.gather.proofs.Members.{those_next}
use Rattle.std.specs.Prelude.{Some, None}
use Rattle.graph.specs.Grown.{Writes}

-- the members below x have been written up to place k; x is the next, or n
pub record Writing (n p at k x : ℕ) (after before heads : List ℕ) : Type 0 where
  pub room : k ≤ length heads
  pub same_long : length heads ≡ length before
  pub holds : (S : ℕ → Bool) → Holds S n p after → (x < n → T (S x)) × (take k heads ++ those S x (n - x) ≡ take at before ++ members S n p)

-- none yet
pub writing_start : {n p at x : ℕ} {after heads : List ℕ} → at ≤ length heads → x ≡ get_or after p 0 → Writing n p at at x after heads heads
writing_start {n} {p} {at} {x} {after} {heads} l e =
    rw e
    (record {
      room = l;
      same_long = refl;
      holds = λ S h. let b = h.next p (inl refl) in (b.member, ap (λ m. take at heads ++ m) (sym (those_next S n p (get_or after p 0) b)));
    })

module _ {n p at k x : ℕ} {after before heads : List ℕ} (w : Writing n p at k x after before heads) where
  -- those from a member on are the member and those above it
  from_here : x < n → (S : ℕ → Bool) → T (S x) → those S x (n - x) ≡ x ∷ members S n x
  from_here more S t =
      let e : n - x ≡ suc (n - suc x) = omega arith in
      ap (λ m. those S x m) e ∙ those_here S x (n - suc x) t

  -- one member more
  pub writing_more : x < n → k < length heads → (z : ℕ) → z ≡ get_or after x 0 → Writing n p at (k + 1) z after before (set heads k x)
  writing_more more fits z e =
      rw (add-one k, e)
      (record {
        room = omega (arith, length-set heads k x);
        same_long = length-set heads k x ∙ w.same_long;
        holds = λ S h.
            let (there, g) = w.holds S h in
            let b = h.next x (inr (there more)) in (
              b.member,
              rw (take-suc-set heads k x fits, append_assoc (take k heads) (x ∷ []) (those S (get_or after x 0) (n - get_or after x 0)), ← those_next S n x (get_or after x 0) b)
                  (ap (λ m. take k heads ++ m) (sym (from_here more S (there more))) ∙ g),
            );
      })

  -- a member for which there is no place: they do not fit
  pub writing_full : x < n → length heads ≤ k → (S : ℕ → Bool) → Holds S n p after → Writes S n p at before heads None
  writing_full more full S h =
      let (there, g) = w.holds S h in
      let m : length (take k heads ++ those S x (n - x)) ≡ length (heads ++ x ∷ members S n x) = rw (take_all k heads full, from_here more S (there more)) refl in
      omega (arith, ap length g, m, length-append heads (x ∷ members S n x), w.same_long)

  -- all of them
  pub writing_end : n ≤ x → (S : ℕ → Bool) → Holds S n p after → Writes S n p at before heads (Some k)
  unfolding those
  writing_end past S h =
      let (there, g) = w.holds S h in
      let e : n - x ≡ 0 = omega arith in
      let f : take k heads ++ those S x (n - x) ≡ take k heads = ap (λ m. take k heads ++ those S x m) e ∙ append-nil (take k heads) in
      (w.room, sym f ∙ g)
