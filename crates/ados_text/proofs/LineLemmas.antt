-- A line that was begun, and the lines after it.
use Rattle.std.proofs.Common.{ℕ, ◌+◌, ◌<◌, ◌≤◌, ◌≡◌, ◌∙◌, arith, List, [], ◌∷◌, ◌++◌, true, false, length, drop, refl, ap, sym, append-nil, append_assoc}
use Rattle.std.specs.Prelude.{slice_index}
use Rattle.std.proofs.lemmas.List.{drop_more, drop_all}
use Rattle.ados_text.specs.Text.{to_ascii}
use Rattle.ados_text.specs.Lines.{is_newline, lines_with_byte, lines_of}

-- the first of these lines continues what was begun; at the end of the bytes that is a line itself, unless it is empty
abbrev pub begun_by : List ℕ → List (List ℕ) → List (List ℕ)
begun_by [] lines = lines
begun_by (byte ∷ bytes) [] = (byte ∷ bytes) ∷ []
begun_by (byte ∷ bytes) (line ∷ lines) = ((byte ∷ bytes) ++ line) ∷ lines

line-ends : (line : List ℕ) (lines : List (List ℕ)) → begun_by line ([] ∷ lines) ≡ line ∷ lines
line-ends [] lines = refl
line-ends (byte ∷ bytes) lines = ap (λ l. l ∷ lines) (append-nil (byte ∷ bytes))

line-goes-on : (line : List ℕ) (next : ℕ) (lines : List (List ℕ)) → begun_by line (lines_with_byte next lines) ≡ begun_by (line ++ next ∷ []) lines
line-goes-on [] next [] = refl
line-goes-on [] next (first ∷ lines) = refl
line-goes-on (byte ∷ bytes) next [] = refl
line-goes-on (byte ∷ bytes) next (first ∷ lines) = ap (λ l. l ∷ lines) (sym (append_assoc (byte ∷ bytes) (next ∷ []) first))

newline-step : (byte : ℕ) (bytes : List ℕ) → is_newline byte ≡ true → lines_of (byte ∷ bytes) ≡ [] ∷ lines_of bytes
newline-step byte bytes b = rw b refl

byte-step : (byte : ℕ) (bytes : List ℕ) → is_newline byte ≡ false → lines_of (byte ∷ bytes) ≡ lines_with_byte (to_ascii byte) (lines_of bytes)
byte-step byte bytes b = rw b refl

-- a byte 10 ends the line
pub past_newline : (bytes : List ℕ) (i : ℕ) (done : List (List ℕ)) (line : List ℕ) → i < length bytes → is_newline (slice_index bytes i) ≡ true
    → lines_of bytes ≡ done ++ begun_by line (lines_of (drop i bytes))
    → lines_of bytes ≡ (done ++ line ∷ []) ++ begun_by [] (lines_of (drop (i + 1) bytes))
past_newline bytes i done line h b e =
    e ∙ ap (λ l. done ++ begun_by line (lines_of l)) (drop_more bytes i 0 h)
    ∙ ap (λ l. done ++ begun_by line l) (newline-step _ (drop (i + 1) bytes) b)
    ∙ ap (λ l. done ++ l) (line-ends line (lines_of (drop (i + 1) bytes)))
    ∙ sym (append_assoc done (line ∷ []) _)

-- any other byte is added to it
pub past_byte : (bytes : List ℕ) (i : ℕ) (done : List (List ℕ)) (line : List ℕ) → i < length bytes → is_newline (slice_index bytes i) ≡ false
    → lines_of bytes ≡ done ++ begun_by line (lines_of (drop i bytes))
    → lines_of bytes ≡ done ++ begun_by (line ++ to_ascii (slice_index bytes i) ∷ []) (lines_of (drop (i + 1) bytes))
past_byte bytes i done line h b e =
    e ∙ ap (λ l. done ++ begun_by line (lines_of l)) (drop_more bytes i 0 h)
    ∙ ap (λ l. done ++ begun_by line l) (byte-step _ (drop (i + 1) bytes) b)
    ∙ ap (λ l. done ++ l) (line-goes-on line _ (lines_of (drop (i + 1) bytes)))

-- a line that is not empty is the last one
pub last_counts : (bytes : List ℕ) (i : ℕ) (done : List (List ℕ)) (line : List ℕ) → length bytes ≤ i → 0 < length line
    → lines_of bytes ≡ done ++ begun_by line (lines_of (drop i bytes)) → done ++ line ∷ [] ≡ lines_of bytes
last_counts bytes i done [] past some e = absurd (omega arith)
last_counts bytes i done (byte ∷ line) past some e = sym (e ∙ ap (λ l. done ++ begun_by (byte ∷ line) (lines_of l)) (drop_all i bytes past))

-- an empty one is not a line
pub none_after : (bytes : List ℕ) (i : ℕ) (done : List (List ℕ)) (line : List ℕ) → length bytes ≤ i → length line ≡ 0
    → lines_of bytes ≡ done ++ begun_by line (lines_of (drop i bytes)) → done ≡ lines_of bytes
none_after bytes i done [] past none e = sym (e ∙ ap (λ l. done ++ lines_of l) (drop_all i bytes past) ∙ append-nil done)
none_after bytes i done (byte ∷ line) past none e = absurd (omega arith)
