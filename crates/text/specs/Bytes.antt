-- Bytes, lines, words and numbers, as document 01's section "The program" has them. Assumes nothing.
use Rattle.std.specs.Prelude.{ℕ, zero, suc, ◌+◌, ◌*◌, ◌-◌, ◌/◌, ◌%◌, Bool, true, false, cond, ◌&&◌, List, [], ◌∷◌, ◌++◌, eqb, ltb, leb, length}

-- the bytes that the rules name
abbrev pub lf : ℕ
lf = 10

abbrev pub space : ℕ
space = 32

abbrev pub digit0 : ℕ
digit0 = 48

-- two texts are the same
unfoldable pub same : (text other : List ℕ) → Bool
same [] [] = true
same [] (y ∷ ys) = false
same (x ∷ xs) [] = false
same (x ∷ xs) (y ∷ ys) = eqb x y && same xs ys

-- a text cut at each byte of a kind: one part more than there are such bytes, each without it
unfoldable pub cut_at : (mark : ℕ) (bytes : List ℕ) → List (List ℕ)
cut_at mark [] = [] ∷ []
cut_at mark (x ∷ xs) = cond (eqb x mark) ([] ∷ cut_at mark xs) (start_with x (cut_at mark xs))
  where
    start_with : ℕ → List (List ℕ) → List (List ℕ)
    start_with x [] = []
    start_with x (part ∷ parts) = (x ∷ part) ∷ parts

-- "words parted by single spaces": two spaces in a row, or one at an end, part off an empty word, which is no word of any line
abbrev pub words : (line : List ℕ) → List (List ℕ)
words line = cut_at space line

-- every byte is a digit
unfoldable pub digits : (word : List ℕ) → Bool
digits [] = true
digits (x ∷ xs) = leb digit0 x && ltb x (digit0 + 10) && digits xs

-- "numbers of one to nine digits"
unfoldable pub is_number : (word : List ℕ) → Bool
unfolding digits
is_number word = leb 1 (length word) && leb (length word) 9 && digits word

-- what the digits say, after what the digits before them said
unfoldable pub number_after : (before : ℕ) (word : List ℕ) → ℕ
number_after before [] = before
number_after before (x ∷ xs) = number_after (before * 10 + (x - digit0)) xs

abbrev pub number_of : (word : List ℕ) → ℕ
number_of word = number_after 0 word

-- a number written in digits, without leading zeros; k bounds how many digits
unfoldable pub decimal_within : (k n : ℕ) → List ℕ
decimal_within zero n = []
decimal_within (suc k) n =
    cond (ltb n 10) ((digit0 + n) ∷ []) (decimal_within k (n / 10) ++ ((digit0 + n % 10) ∷ []))

-- a 64-bit number has at most 20
unfoldable pub decimal : (n : ℕ) → List ℕ
unfolding decimal_within
decimal n = decimal_within 20 n
