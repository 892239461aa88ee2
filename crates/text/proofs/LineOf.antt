-- What a line says, read word by word, is what the definition says of its words. Assumes nothing.
use Rattle.std.proofs.Common.{ℕ, suc, ◌-◌, ◌≡◌, refl, ◌∙◌, Bool, true, false, cond, ◌&&◌, List, [], ◌∷◌, ◌⊎◌, inl, inr, Option, Some, None, arith, eqb, leb, length, ne_eqb}
use mathlib.Core.Bool.{and-false}
use Rattle.text.specs.Bytes.{same, cut_at, is_number, number_of}
use Rattle.text.specs.Program.{Line, comment, problem, arc, seat, question, other, word, is_junction, is_cost, cost_of_word, is_comment, is_problem, is_arc, is_seat, is_question, line_of}
use Rattle.text.specs.ReadBack.{letter_said, sp_said, number_said, junction_said, cost_said, first_said, last, next, problem_said, arc_said, seat_said, question_said}

-- ---- whether a word is left

-- a text has some part
pub some_part : (mark : ℕ) (s : List ℕ) → (p : List ℕ) × (ps : List (List ℕ)) × (cut_at mark s ≡ p ∷ ps)
unfolding cut_at
some_part mark [] = ([], [], refl)
some_part mark (x ∷ xs) = by (some_part mark xs) (eqb x mark) refl
  where
    by : (p : List ℕ) × (ps : List (List ℕ)) × (cut_at mark xs ≡ p ∷ ps) → (b : Bool) → eqb x mark ≡ b → (p : List ℕ) × (ps : List (List ℕ)) × (cut_at mark (x ∷ xs) ≡ p ∷ ps)
    by r true e = ([], cut_at mark xs, rw e refl)
    by (p, ps, f) false e = (x ∷ p, ps, rw (e, f) refl)

-- ---- the first word says which line it is

-- a line whose first word is not its letter is no such line
not_problem : (w : List ℕ) (ws : List (List ℕ)) → same w (112 ∷ []) ≡ false → is_problem (w ∷ ws) ≡ false
unfolding is_problem
not_problem w ws e = rw (e, and-false (eqb (suc (length ws)) 4)) refl

not_arc : (w : List ℕ) (ws : List (List ℕ)) → same w (97 ∷ []) ≡ false → is_arc (w ∷ ws) ≡ false
unfolding is_arc
not_arc w ws e = rw (e, and-false (eqb (suc (length ws)) 4)) refl

not_seat : (w : List ℕ) (ws : List (List ℕ)) → same w (111 ∷ []) ≡ false → is_seat (w ∷ ws) ≡ false
unfolding is_seat
not_seat w ws e = rw (e, and-false (eqb (suc (length ws)) 2)) refl

not_question : (w : List ℕ) (ws : List (List ℕ)) → same w (113 ∷ []) ≡ false → is_question (w ∷ ws) ≡ false
unfolding is_question
not_question w ws e = rw (e, and-false (eqb (suc (length ws)) 3)) refl

-- a line whose first word is none of the letters
no_line : (w : List ℕ) (ws : List (List ℕ)) → ((x : ℕ) → (x ≡ 99) ⊎ ((x ≡ 112) ⊎ ((x ≡ 97) ⊎ ((x ≡ 111) ⊎ (x ≡ 113)))) → same w (x ∷ []) ≡ false) → other ≡ line_of (w ∷ ws)
unfolding line_of is_comment
no_line w ws n =
    rw
    (n 99 (inl refl), not_problem w ws (n 112 (inr (inl refl))), not_arc w ws (n 97 (inr (inr (inl refl)))), not_seat w ws (n 111 (inr (inr (inr (inl refl))))), not_question w ws (n 113 (inr (inr (inr (inr refl))))))
    refl

-- a word that is not of one byte is no letter
not_letter : (w : List ℕ) (x : ℕ) → None ≡ letter_said w → same w (x ∷ []) ≡ false
unfolding letter_said same
not_letter [] x e = refl
not_letter (y ∷ []) x e = cc
not_letter (y ∷ z ∷ w) x e = and-false (eqb y x)

-- a word of one byte is it
one_byte : (x : ℕ) (w : List ℕ) → Some x ≡ letter_said w → w ≡ x ∷ []
unfolding letter_said
one_byte x [] e = cc
one_byte x (y ∷ []) e = cc
one_byte x (y ∷ z ∷ w) e =
    let g : ◌≡◌ {A = Option ℕ} (Some x) None = rw (ne_eqb (suc (suc (length w))) 1 (λ q. omega arith)) at e in cc

-- a line that begins with each letter
line_c : (ws : List (List ℕ)) → comment ≡ line_of ((99 ∷ []) ∷ ws)
unfolding line_of
line_c ws = refl

-- by another letter
line_x : (x : ℕ) (ws : List (List ℕ)) → (x ≡ 99 → ⊥) → (x ≡ 112 → ⊥) → (x ≡ 97 → ⊥) → (x ≡ 111 → ⊥) → (x ≡ 113 → ⊥) → other ≡ line_of ((x ∷ []) ∷ ws)
unfolding same
line_x x ws c p a o q = no_line (x ∷ []) ws (λ y is. rw (ne_eqb x y (none y is)) refl)
  where
    none : (y : ℕ) → (y ≡ 99) ⊎ ((y ≡ 112) ⊎ ((y ≡ 97) ⊎ ((y ≡ 111) ⊎ (y ≡ 113)))) → x ≡ y → ⊥
    none y (inl e) f = c (f ∙ e)
    none y (inr (inl e)) f = p (f ∙ e)
    none y (inr (inr (inl e))) f = a (f ∙ e)
    none y (inr (inr (inr (inl e)))) f = o (f ∙ e)
    none y (inr (inr (inr (inr e)))) f = q (f ∙ e)

-- where each word leads to another line, so do the words
all_other : (v : Option ℕ) (rest : List (List ℕ)) (f : ℕ → List (List ℕ) → Line) → ((x : ℕ) → f x rest ≡ other) → next (first_said v rest) f ≡ other
all_other (Some x) rest f h = h x
all_other None rest f h = refl

-- `o junction`: with a word too many, too
seat_line : (ws : List (List ℕ)) → seat_said ws ≡ cond (is_seat ((111 ∷ []) ∷ ws)) (seat (number_of (word ws 0) - 1)) other
unfolding is_seat seat_said junction_said
seat_line [] = refl
seat_line (v ∷ []) = by (is_junction v) refl
  where
    by : (b : Bool) → is_junction v ≡ b → seat_said (v ∷ []) ≡ cond (is_junction v) (seat (number_of v - 1)) other
    by true e = rw e refl
    by false e = rw e refl
seat_line (v ∷ w ∷ ws) =
    all_other (junction_said v) (w ∷ ws) (λ j ws. last (seat j) ws) (λ j. refl)
    ∙ rw (ne_eqb (suc (suc (suc (length ws)))) 2 (λ q. omega arith)) refl

line_o : (ws : List (List ℕ)) → seat_said ws ≡ line_of ((111 ∷ []) ∷ ws)
unfolding line_of is_comment
line_o ws = seat_line ws ∙ rw (not_problem (111 ∷ []) ws refl, not_arc (111 ∷ []) ws refl, not_question (111 ∷ []) ws refl) refl

-- `q from to`
question_line : (ws : List (List ℕ)) → question_said ws ≡ cond (is_question ((113 ∷ []) ∷ ws)) (question (number_of (word ws 0) - 1) (number_of (word ws 1) - 1)) other
unfolding is_question question_said junction_said
question_line [] = refl
question_line (u ∷ []) = all_other (junction_said u) [] _ (λ j. refl)
question_line (u ∷ v ∷ []) = by (is_junction u) refl (is_junction v) refl
  where
    by : (b : Bool) → is_junction u ≡ b → (d : Bool) → is_junction v ≡ d → question_said (u ∷ v ∷ []) ≡ cond (is_junction u && is_junction v) (question (number_of u - 1) (number_of v - 1)) other
    by true e true f = rw (e, f) refl
    by true e false f = rw (e, f) refl
    by false e d f = rw e refl
question_line (u ∷ v ∷ w ∷ ws) =
    all_other (junction_said u) (v ∷ w ∷ ws) _ (λ a. all_other (junction_said v) (w ∷ ws) _ (λ b. refl))
    ∙ rw (ne_eqb (suc (suc (suc (suc (length ws))))) 3 (λ q. omega arith)) refl

line_q : (ws : List (List ℕ)) → question_said ws ≡ line_of ((113 ∷ []) ∷ ws)
unfolding line_of is_comment
line_q ws = question_line ws ∙ rw (not_problem (113 ∷ []) ws refl, not_arc (113 ∷ []) ws refl, not_seat (113 ∷ []) ws refl) refl

-- `a tail head cost`
arc_line : (ws : List (List ℕ)) → arc_said ws ≡ cond (is_arc ((97 ∷ []) ∷ ws)) (arc (number_of (word ws 0) - 1) (number_of (word ws 1) - 1) (cost_of_word (word ws 2))) other
unfolding is_arc arc_said junction_said cost_said
arc_line [] = refl
arc_line (u ∷ []) = all_other (junction_said u) [] _ (λ j. refl)
arc_line (u ∷ v ∷ []) = all_other (junction_said u) (v ∷ []) _ (λ a. all_other (junction_said v) [] _ (λ b. refl))
arc_line (u ∷ v ∷ w ∷ []) = by (is_junction u) refl (is_junction v) refl (is_cost w) refl
  where
    by : (b : Bool) → is_junction u ≡ b → (d : Bool) → is_junction v ≡ d → (k : Bool) → is_cost w ≡ k → arc_said (u ∷ v ∷ w ∷ []) ≡ cond (is_junction u && is_junction v && is_cost w) (arc (number_of u - 1) (number_of v - 1) (cost_of_word w)) other
    by true e true f true g = rw (e, f, g) refl
    by true e true f false g = rw (e, f, g) refl
    by true e false f k g = rw (e, f) refl
    by false e d f k g = rw e refl
arc_line (u ∷ v ∷ w ∷ x ∷ ws) =
    all_other (junction_said u) (v ∷ w ∷ x ∷ ws) _
    (λ a. all_other (junction_said v) (w ∷ x ∷ ws) _ (λ b. all_other (cost_said w) (x ∷ ws) _ (λ k. refl)))
    ∙ rw (ne_eqb (suc (suc (suc (suc (suc (length ws)))))) 4 (λ q. omega arith)) refl

line_a : (ws : List (List ℕ)) → arc_said ws ≡ line_of ((97 ∷ []) ∷ ws)
unfolding line_of is_comment
line_a ws = arc_line ws ∙ rw (not_problem (97 ∷ []) ws refl, not_seat (97 ∷ []) ws refl, not_question (97 ∷ []) ws refl) refl

-- `p sp n m`
problem_line : (ws : List (List ℕ)) → problem_said ws ≡ cond (is_problem ((112 ∷ []) ∷ ws)) (problem (number_of (word ws 1)) (number_of (word ws 2))) other
unfolding is_problem problem_said sp_said number_said
problem_line [] = refl
problem_line (u ∷ []) = all_other (sp_said u) [] _ (λ j. refl)
problem_line (u ∷ v ∷ []) = all_other (sp_said u) (v ∷ []) _ (λ a. all_other (number_said v) [] _ (λ b. refl))
problem_line (u ∷ v ∷ w ∷ []) = by (same u (115 ∷ 112 ∷ [])) refl (is_number v) refl (is_number w) refl
  where
    by : (b : Bool) → same u (115 ∷ 112 ∷ []) ≡ b → (d : Bool) → is_number v ≡ d → (k : Bool) → is_number w ≡ k → problem_said (u ∷ v ∷ w ∷ []) ≡ cond (same u (115 ∷ 112 ∷ []) && is_number v && is_number w && leb (number_of v) 256 && leb (number_of w) 1024) (problem (number_of v) (number_of w)) other
    by true e true f true g = rw (e, f, g) refl
    by true e true f false g = rw (e, f, g) refl
    by true e false f k g = rw (e, f) refl
    by false e d f k g = rw e refl
problem_line (u ∷ v ∷ w ∷ x ∷ ws) =
    all_other (sp_said u) (v ∷ w ∷ x ∷ ws) _
    (λ a. all_other (number_said v) (w ∷ x ∷ ws) _ (λ b. all_other (number_said w) (x ∷ ws) _ (λ k. refl)))
    ∙ rw (ne_eqb (suc (suc (suc (suc (suc (length ws)))))) 4 (λ q. omega arith)) refl

line_p : (ws : List (List ℕ)) → problem_said ws ≡ line_of ((112 ∷ []) ∷ ws)
unfolding line_of is_comment
line_p ws = problem_line ws ∙ rw (not_arc (112 ∷ []) ws refl, not_seat (112 ∷ []) ws refl, not_question (112 ∷ []) ws refl) refl

-- ---- a line by its first word

-- it has none
pub line_none : (ws : List (List ℕ)) → ws ≡ [] → other ≡ line_of ws
unfolding line_of
line_none ws e = rw e refl

module _ (w : List ℕ) (rest ws : List (List ℕ)) (e : ws ≡ w ∷ rest) where
  -- it is no letter
  pub line_unlettered : None ≡ letter_said w → other ≡ line_of ws
  line_unlettered f = rw e (no_line w rest (λ x _. not_letter w x f))

  -- each letter
  pub line_by_c : Some 99 ≡ letter_said w → comment ≡ line_of ws
  line_by_c f = rw (e, one_byte 99 w f) (line_c rest)

  pub line_by_p : Some 112 ≡ letter_said w → problem_said rest ≡ line_of ws
  line_by_p f = rw (e, one_byte 112 w f) (line_p rest)

  pub line_by_a : Some 97 ≡ letter_said w → arc_said rest ≡ line_of ws
  line_by_a f = rw (e, one_byte 97 w f) (line_a rest)

  pub line_by_o : Some 111 ≡ letter_said w → seat_said rest ≡ line_of ws
  line_by_o f = rw (e, one_byte 111 w f) (line_o rest)

  pub line_by_q : Some 113 ≡ letter_said w → question_said rest ≡ line_of ws
  line_by_q f = rw (e, one_byte 113 w f) (line_q rest)

  -- another letter
  pub line_by_other : (x : ℕ) → Some x ≡ letter_said w → (x ≡ 99 → ⊥) → (x ≡ 112 → ⊥) → (x ≡ 97 → ⊥) → (x ≡ 111 → ⊥) → (x ≡ 113 → ⊥) → other ≡ line_of ws
  line_by_other x f c p a o q = rw (e, one_byte x w f) (line_x x rest c p a o q)
