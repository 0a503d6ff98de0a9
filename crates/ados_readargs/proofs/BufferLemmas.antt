-- texts in a buffer stay as they are when more is put after them
use Rattle.std.proofs.Common.{ℕ, suc, ◌≡◌, ◌<◌, ◌≤◌, ◌+◌, ◌-◌, List, [], ◌∷◌, ◌++◌, map, length, take, drop, get_or, refl, ap, sym, subst, ◌∙◌, append_assoc, length-append, arith}
use Rattle.std.specs.List.{All}
use Rattle.std.proofs.lemmas.Bool.Decides.{nat_tests}
use Rattle.std.proofs.lemmas.List.{take-append-le, drop-append-le, drop-drop, length-drop, map-append, take_all, take_more}
use Rattle.std.proofs.lemmas.List.Elements.{All-take, All-drop, All-push, All-append}
use Rattle.std.proofs.Math.Seq.{drop-append_seam}
use Rattle.ados_text.specs.Text.{to_ascii, IsText}
use Rattle.ados_items.specs.Items.{bytes_between, value_of}
use Rattle.ados_items.specs.declared.items.Item.{Item}
use Rattle.ados_items.specs.declared.items.Item.TheVariants.{Word}
use Rattle.ados_readargs.specs.declared.buffers.Span.{Span}
use Rattle.ados_readargs.specs.Buffers.{span_text, span_texts, LiesIn, AreLaid}

between-append : (bytes more : List ℕ) (from to : ℕ) → from ≤ to → to ≤ length bytes → bytes_between (bytes ++ more) from to ≡ bytes_between bytes from to
between-append bytes more from to a b =
    let left : length (drop from bytes) ≡ length bytes - from = length-drop from bytes in
    ap (take (to - from)) (drop-append-le from bytes more (omega arith)) ∙ take-append-le (to - from) (drop from bytes) more (omega arith)

between-after : (bytes more : List ℕ) (from to : ℕ) → from ≡ length bytes → to ≡ length bytes + length more → bytes_between (bytes ++ more) from to ≡ more
between-after bytes more from to a b =
    ap (λ k. take (to - from) (drop k (bytes ++ more))) a ∙ ap (take (to - from)) (drop-append_seam bytes more) ∙ take_all (to - from) more (omega arith)

-- the texts so far
pub texts-kept : (bytes more : List ℕ) (spans : List Span) → All (LiesIn (length bytes)) spans → span_texts (bytes ++ more) spans ≡ span_texts bytes spans
texts-kept bytes more [] within = refl
texts-kept bytes more (span ∷ spans) within =
    let here : LiesIn (length bytes) span = within 0 span (omega arith) in
    let first : span_text (bytes ++ more) span ≡ span_text bytes span = between-append bytes more span.from span.to here.0 here.1 in
    let rest = texts-kept bytes more spans (λ k d h. within (suc k) d (omega arith)) in cc

-- and one more after them
pub one-more : (bytes more : List ℕ) (spans : List Span) (from to : ℕ) → from ≡ length bytes → to ≡ length bytes + length more → All (LiesIn (length bytes)) spans
    → span_texts (bytes ++ more) (spans ++ record { from = from; to = to } ∷ []) ≡ span_texts bytes spans ++ more ∷ []
one-more bytes more spans from to a b within =
    map-append (span_text (bytes ++ more)) spans (record { from = from; to = to } ∷ [])
    ∙ ap (λ texts. texts ++ span_text (bytes ++ more) (record { from = from; to = to }) ∷ []) (texts-kept bytes more spans within)
    ∙ ap (λ text. span_texts bytes spans ++ text ∷ []) (between-after bytes more from to a b)

pub ruleset laid = (texts-kept, one-more)

-- bytes that are ASCII stay as they are
text-kept : (bytes : List ℕ) → IsText bytes → map to_ascii bytes ≡ bytes
text-kept [] ascii = refl
text-kept (c ∷ cs) ascii =
    let h : c < 128 = ascii 0 c (omega arith) in
    let first : to_ascii c ≡ c = grind (arith, nat_tests) in
    let rest = text-kept cs (λ k d h. ascii (suc k) d (omega arith)) in cc

-- if a line was copied to the end of the bytes, its words are spans
word-copied : (bytes line : List ℕ) (base from to : ℕ) → IsText bytes → drop base bytes ≡ line
    → bytes_between bytes (base + from) (base + to) ≡ value_of line (Word from to)
word-copied bytes line base from to ascii copied =
    let text : IsText line = subst IsText copied (All-drop (λ b. b < 128) base bytes ascii) in
    let size : base + to - (base + from) ≡ to - from = omega arith in
    ap (λ n. take n (drop (base + from) bytes)) size
    ∙ ap (take (to - from)) (sym (drop-drop from base bytes) ∙ ap (drop from) copied)
    ∙ sym (text-kept (bytes_between line from to) (All-take (λ b. b < 128) (to - from) (drop from line) (All-drop (λ b. b < 128) from line text)))

-- one more word of the line
pub word-laid : (bytes line : List ℕ) (base from to : ℕ) (spans : List Span) → AreLaid bytes spans → base + length line ≡ length bytes → from ≤ to → to ≤ length line
    → AreLaid bytes (spans ++ record { from = base + from; to = base + to } ∷ [])
word-laid bytes line base from to spans laid long a b =
    record { ascii = laid.ascii; within = All-push (LiesIn (length bytes)) spans (record { from = base + from; to = base + to }) laid.within (omega arith, omega arith) }

pub word-pushed : (bytes line : List ℕ) (base from to : ℕ) (first spans : List Span) (items : List Item) (place : ℕ)
    → IsText bytes → drop base bytes ≡ line → place < length items → get_or items place (Word 0 0) ≡ Word from to
    → span_texts bytes spans ≡ span_texts bytes first ++ map (value_of line) (take place items)
    → span_texts bytes (spans ++ record { from = base + from; to = base + to } ∷ []) ≡ span_texts bytes first ++ map (value_of line) (take (place + 1) items)
word-pushed bytes line base from to first spans items place ascii copied w e h =
    map-append (span_text bytes) spans (record { from = base + from; to = base + to } ∷ [])
    ∙ ap (λ texts. texts ++ bytes_between bytes (base + from) (base + to) ∷ []) h
    ∙ ap (λ text. (span_texts bytes first ++ map (value_of line) (take place items)) ++ text ∷ []) (word-copied bytes line base from to ascii copied)
    ∙ append_assoc (span_texts bytes first) (map (value_of line) (take place items)) (value_of line (Word from to) ∷ [])
    ∙ ap (λ more. span_texts bytes first ++ more) (sym (map-append (value_of line) (take place items) (Word from to ∷ [])))
    ∙ ap (λ more. span_texts bytes first ++ map (value_of line) more) (ap (λ item. take place items ++ item ∷ []) (sym e) ∙ sym (take_more items place (Word 0 0) w))

-- the spans so far, if a line was copied after the bytes
pub line-copied : (bytes line : List ℕ) (spans : List Span) → AreLaid bytes spans → IsText line → AreLaid (bytes ++ line) spans
line-copied bytes line spans laid text =
    let long : length (bytes ++ line) ≡ length bytes + length line = length-append bytes line in
    record { ascii = All-append (λ b. b < 128) bytes line laid.ascii text; within = λ k d h. let here : LiesIn (length bytes) (get_or spans k d) = laid.within k d h in (here.0, omega (arith, here.1, long)) }
