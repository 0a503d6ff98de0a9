-- the shells, placed in their directories, moved along with what was moved
use Rattle.std.proofs.Common.{◌≡◌, ◌<◌, ◌+◌, ℕ, zero, suc, List, [], ◌∷◌, Option, Some, None, ◌∙◌, drop, length, take, map, get_or, ap, arith, refl, sym}
use Rattle.std.specs.Prelude.{slice_set}
use Rattle.std.proofs.lemmas.List.{drop-drop, drop-set-lt, get_or-drop}
use Rattle.ados_ram.specs.Place.{Place}
use Rattle.ados_find.specs.declared.outcomes.Renamed.{Renamed}
use Rattle.ados_machine.specs.Carrying.{carried_directory, carried_place, carried_shell}
use Rattle.ados_machine.specs.Shells.{ShellState}
use Rattle.ados_world.specs.Shells.{placed_shells, carried_directories, placed_shell}

placed-all : (moved : List Renamed) (shells : List (Option ShellState))
    → placed_shells (carried_directories moved shells) shells ≡ map (carried_place moved) shells
placed-all moved [] = refl
placed-all moved (None ∷ shells) = ap (λ l. None ∷ l) (placed-all moved shells)
placed-all moved (Some shell ∷ shells) = ap (λ l. Some (carried_shell moved shell) ∷ l) (placed-all moved shells)

-- one of them is another shell, with a directory of its own
pub placed-set : (moved : List Renamed) (new : ShellState) (shells : List (Option ShellState)) (i : ℕ)
    → placed_shells (slice_set (carried_directories moved shells) i (Some (carried_directory moved new))) (slice_set shells i (Some new))
    ≡ slice_set (map (carried_place moved) shells) i (Some (carried_shell moved new))
placed-set moved new [] i = refl
placed-set moved new (first ∷ shells) zero = ap (λ l. Some (carried_shell moved new) ∷ l) (placed-all moved shells)
placed-set moved new (None ∷ shells) (suc i) = ap (λ l. None ∷ l) (placed-set moved new shells i)
placed-set moved new (Some shell ∷ shells) (suc i) = ap (λ l. Some (carried_shell moved shell) ∷ l) (placed-set moved new shells i)

-- one more shell is placed
place-suc : (directories : List (Option Place)) (old : List (Option ShellState)) (i : ℕ) (d : Option Place) (s : Option ShellState)
    → i < length directories → i < length old
    → slice_set (placed_shells (take i directories) old) i (placed_shell (get_or directories i d) (get_or (placed_shells (take i directories) old) i s))
    ≡ placed_shells (take (suc i) directories) old
place-suc [] old i d s a b = (let none : ⊥ = omega (arith, a) in absurd none)
place-suc (directory ∷ directories) [] i d s a b = (let none : ⊥ = omega (arith, b) in absurd none)
place-suc (directory ∷ directories) (shell ∷ old) zero d s a b = refl
place-suc (directory ∷ directories) (shell ∷ old) (suc i) d s a b =
    ap (λ l. placed_shell directory shell ∷ l) (place-suc directories old i d s (omega (arith, a)) (omega (arith, b)))

-- the first of what is left of a list
first-left : {X : Type 0} (left all : List X) (i : ℕ) (d : X) → drop i left ≡ drop i all → get_or left i d ≡ get_or all i d
first-left left all i d h =
    ap (λ n. get_or left n d) (sym (zero-after i)) ∙ sym (get_or-drop i left 0 d) ∙ ap (λ l. get_or l 0 d) h
    ∙ get_or-drop i all 0 d ∙ ap (λ n. get_or all n d) (zero-after i)
  where
    zero-after : (n : ℕ) → n + 0 ≡ n
    zero-after n = omega arith

pub place-more : (directories left : List (Option Place)) (old new : List (Option ShellState)) (i : ℕ) (x d : Option Place) (s : Option ShellState)
    → new ≡ placed_shells (take i directories) old → drop i left ≡ drop i directories → i < length directories → i < length old
    → x ≡ get_or left i d → slice_set new i (placed_shell x (get_or new i s)) ≡ placed_shells (take (i + 1) directories) old
place-more directories left old new i x d s n l a b e =
    ap (λ x. slice_set new i (placed_shell x (get_or new i s))) (e ∙ first-left left directories i d l)
    ∙ ap (λ l. slice_set l i (placed_shell (get_or directories i d) (get_or l i s))) n
    ∙ place-suc directories old i d s a b
    ∙ (let next : suc i ≡ i + 1 = omega arith in ap (λ n. placed_shells (take n directories) old) next)

-- one more directory is taken
pub left-more : (left all : List (Option Place)) (i : ℕ) (x : Option Place) → drop i left ≡ drop i all
    → drop (i + 1) (slice_set left i x) ≡ drop (i + 1) all
left-more left all i x h = drop-set-lt (i + 1) left i x (omega arith) ∙ sym (drop-drop 1 i left) ∙ ap (drop 1) h ∙ drop-drop 1 i all
