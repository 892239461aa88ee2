-- One value stored in a list, and what stands elsewhere. Assumes nothing.
use Prim.Native.Nat.{ℕ, ◌<◌}
use mathlib.Core.Path.{◌≡◌, ap, ◌∙◌}
use mathlib.Core.Logic.{◌≢◌}
use mathlib.Core.List.{List}
use lib.ListN.{length, get_or, set, length-set}
use lib.Seq.{get_or-set_same, get_or-set_other}

-- the list l with v stored at place k
pub record Stored (l : List ℕ) (k v : ℕ) (l' : List ℕ) : Type 0 where
  pub long : length l' ≡ length l
  pub here : get_or l' k 0 ≡ v
  pub off : (i : ℕ) → i ≢ k → get_or l' i 0 ≡ get_or l i 0

pub stored : (l l' : List ℕ) (k v : ℕ) → l' ≡ set l k v → k < length l → Stored l k v l'
stored l l' k v e h =
    record {
      long = ap length e ∙ length-set l k v;
      here = ap (λ x. get_or x k 0) e ∙ get_or-set_same l k v 0 h;
      off = λ i n. ap (λ x. get_or x i 0) e ∙ get_or-set_other l k i v 0 n;
    }
