-- the words of a phrase, piece by piece
use Rattle.std.proofs.Common.{ℕ, suc, ◌≡◌, List, [], ◌∷◌, ◌++◌, Bool, true, ◌==◌, ◌&&◌, Option, Some, None, refl, ap, sym, ◌∙◌, append_assoc, append-nil, if◌then◌else◌}
use Rattle.std.specs.Option.{option_map}
use Rattle.ados_items.specs.declared.items.Item.{Item}
use Rattle.ados_items.specs.Items.{item_at, value_of}
use Rattle.ados_script.specs.declared.phrases.Piece.{Piece}
use Rattle.ados_script.specs.Phrases.{piece_of, spaced_by_piece, spaced_from}

-- one step, by the item that was found
spaced-item : (n : ℕ) (line : List ℕ) (runs : Bool) (place : ℕ) (item : Item) → item ≡ item_at true line place
    → spaced_from (suc n) line runs place ≡ spaced_by_piece (λ r to. spaced_from n line r to) runs place line item (piece_of item)
spaced-item n line runs place item e = ap (λ it. spaced_by_piece (λ r to. spaced_from n line r to) runs place line it (piece_of it)) (sym e)

-- an item with the piece that it is
abbrev pair : Item → Piece → Item × Piece
pair item piece = (item, piece)

abbrev pairs : Item → Option Piece → Option (Item × Piece)
pairs item pieces = option_map (pair item) pieces

-- the item and the piece that were found
record IsFound (at item : Item) (pieces : Option Piece) (piece : Piece) : Type 0 where
  item_is : item ≡ at
  piece_is : pieces ≡ Some piece

abbrev item_in : Option (Item × Piece) → Item → Item
item_in None item = item
item_in (Some found) item = found.0

abbrev piece_in : Option (Item × Piece) → Option Piece
piece_in None = None
piece_in (Some found) = Some found.1

found-is : (at item : Item) (piece : Piece) (pieces : Option Piece) → Some (pair item piece) ≡ pairs at pieces → IsFound at item pieces piece
found-is at item piece None e = absurd cc
found-is at item piece (Some p) e = record { item_is = ap (λ found. item_in found at) e; piece_is = sym (ap piece_in e) }

none-is : (at : Item) (pieces : Option Piece) → None ≡ pairs at pieces → pieces ≡ None
none-is at None e = refl
none-is at (Some p) e = cc

pub spaced-more : (n : ℕ) (line : List ℕ) (runs : Bool) (place : ℕ) (item : Item) (piece : Piece) (whole old new : List ℕ)
    → Some (pair item piece) ≡ pairs (item_at true line place) (piece_of (item_at true line place))
    → whole ≡ old ++ spaced_from (suc n) line runs place
    → new ≡ (old ++ (if runs && (piece.from == place) then [] else 32 ∷ [])) ++ value_of line item
    → whole ≡ new ++ spaced_from n line piece.runs piece.to
spaced-more n line runs place item piece whole old new found so_far more =
    let is = found-is (item_at true line place) item piece (piece_of (item_at true line place)) found in
    let one : piece_of item ≡ Some piece = ap piece_of is.item_is ∙ is.piece_is in
    let blank : List ℕ = if runs && (piece.from == place) then [] else 32 ∷ [] in
    let rest : List ℕ = spaced_from n line piece.runs piece.to in
    so_far
    ∙ ap (λ s. old ++ s) (spaced-item n line runs place item is.item_is ∙ ap (spaced_by_piece (λ r to. spaced_from n line r to) runs place line item) one)
    ∙ sym (ap (λ s. s ++ rest) more ∙ ap (λ s. s ++ rest) (append_assoc old blank (value_of line item)) ∙ append_assoc old (blank ++ value_of line item) rest)

-- no piece is left
pub spaced-done : (n : ℕ) (line : List ℕ) (runs : Bool) (place : ℕ) (whole old : List ℕ)
    → None ≡ pairs (item_at true line place) (piece_of (item_at true line place))
    → whole ≡ old ++ spaced_from (suc n) line runs place → old ≡ whole
spaced-done n line runs place whole old found so_far =
    sym (so_far ∙ ap (λ s. old ++ s) (spaced-item n line runs place (item_at true line place) refl
    ∙ ap (spaced_by_piece (λ r to. spaced_from n line r to) runs place line (item_at true line place)) (none-is (item_at true line place) (piece_of (item_at true line place)) found)) ∙ append-nil old)

pub spaced-end : (whole old : List ℕ) → whole ≡ old ++ [] → old ≡ whole
spaced-end whole old e = sym (e ∙ append-nil old)
