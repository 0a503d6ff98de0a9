-- the tables of a script, read from its last line up
use Rattle.std.proofs.Common.{ℕ, ◌+◌, ◌<◌, ◌≤◌, ◌≡◌, ◌∙◌, List, [], ◌∷◌, ◌++◌, Bool, true, false, length, map, drop, get_or, reverse, refl, ap, sym, arith}
use Rattle.std.specs.List.{filter}
use Rattle.std.specs.Option.{IfSome}
use Rattle.std.proofs.lemmas.List.{drop_more, get_or-map, length-map, reverse-append}
use Rattle.ados_text.specs.Text.{Text}
use Rattle.ados_script.specs.declared.blocks.Ends.{Ends}
use Rattle.ados_script.specs.declared.heads.Head.{Head}
use Rattle.ados_script.specs.declared.heads.Head.TheVariants.{If, Else, EndIf, EndSkip, Lab, Other}
use Rattle.ados_script.specs.declared.labels.Label.{Label}
use Rattle.ados_script.specs.Heads.{head_of, label_of}
use Rattle.ados_script.specs.Lines.{numbers_below, is_some_and, line_of}
use Rattle.ados_script.specs.Phrases.{phrase_of}
use Rattle.ados_script.specs.Skips.{is_end_skip, is_end_skip_at}
use Rattle.ados_script.specs.Tables.{ends_above, is_lab, is_lab_at, label_at, labels_below, kept_ends, with_entry}
use Rattle.ados_script.proofs.LineLemmas.{below-more, below-past, line_of-place}
use Rattle.ados_script.proofs.EntryLemmas.{AreEntries, end_below, no_entries, with_more}

-- the lines from a place on are read
pub record AreRead (lines : List Text) (i : ℕ) (table : List Ends) (skips numbers : List ℕ) (found phrased : List Label) : Type 0 where
  pub entries : AreEntries (map head_of lines) i table
  pub end_skips : reverse skips ≡ filter (is_end_skip_at lines) (numbers_below lines i)
  pub labs : reverse numbers ≡ filter (is_lab_at lines) (numbers_below lines i)
  pub labels : reverse found ≡ labels_below label_of lines i
  pub phrases : reverse phrased ≡ labels_below phrase_of lines i

pub none_read : (lines : List Text) (i : ℕ) → length lines ≤ i → AreRead lines i [] [] [] [] []
none_read lines i h =
    let none = below-past lines i h in
    record {
      entries = no_entries (map head_of lines) i (omega (arith, h, length-map lines head_of));
      end_skips = rw none refl;
      labs = rw none refl;
      labels = rw none refl;
      phrases = rw none refl;
    }

-- the next line is read, and what it is
pub record IsLine (lines : List Text) (i : ℕ) (text : Text) (kind : Head) : Type 0 where
  pub within : i < length lines
  pub line : text ≡ get_or lines i text
  pub head : kind ≡ head_of text

tested : (lines : List Text) (i : ℕ) (text : Text) (head : Head) (test : Head → Bool) → IsLine lines i text head
    → is_some_and (λ line. test (head_of line)) (line_of lines (i + 1)) ≡ test head
tested lines i text head test is = rw (line_of-place lines i text is.within, ← is.line, ← is.head) refl

-- a number is added to a list, or not
joined : (test : ℕ → Bool) (lines : List Text) (i : ℕ) (old : List ℕ) → i < length lines → reverse old ≡ filter test (numbers_below lines (i + 1)) → test (i + 1) ≡ true
    → reverse (old ++ (i + 1) ∷ []) ≡ filter test (numbers_below lines i)
joined test lines i old h e t = reverse-append old ((i + 1) ∷ []) ∙ rw (below-more lines i h, t, e) refl

passed : (test : ℕ → Bool) (lines : List Text) (i : ℕ) (old : List ℕ) → i < length lines → reverse old ≡ filter test (numbers_below lines (i + 1)) → test (i + 1) ≡ false
    → reverse old ≡ filter test (numbers_below lines i)
passed test lines i old h e t = rw (below-more lines i h, t) e

label_joined : (text_of : Text → Text) (lines : List Text) (i : ℕ) (old : List Label) (label : Label) → i < length lines → reverse old ≡ labels_below text_of lines (i + 1) → is_lab_at lines (i + 1) ≡ true
    → label ≡ label_at text_of lines (i + 1) → reverse (old ++ label ∷ []) ≡ labels_below text_of lines i
label_joined text_of lines i old label h e t is = reverse-append old (label ∷ []) ∙ rw (below-more lines i h, t, e, is) refl

label_passed : (text_of : Text → Text) (lines : List Text) (i : ℕ) (old : List Label) → i < length lines → reverse old ≡ labels_below text_of lines (i + 1) → is_lab_at lines (i + 1) ≡ false → reverse old ≡ labels_below text_of lines i
label_passed text_of lines i old h e t = rw (below-more lines i h, t) e

rest_of : (lines : List Text) (i : ℕ) (text : Text) (head : Head) → IsLine lines i text head → drop i (map head_of lines) ≡ head ∷ drop (i + 1) (map head_of lines)
rest_of lines i text head is =
    let long : i < length (map head_of lines) = omega (arith, is.within, length-map lines head_of) in
    let here : get_or (map head_of lines) i head ≡ head = get_or-map head_of lines i text head is.within ∙ ap head_of (sym is.line) ∙ sym is.head in
    drop_more (map head_of lines) i head long ∙ ap (λ (h : Head). h ∷ drop (i + 1) (map head_of lines)) here

entries_more : (lines : List Text) (i : ℕ) (text : Text) (head : Head) (table : List Ends) → IsLine lines i text head → AreEntries (map head_of lines) (i + 1) table
    → AreEntries (map head_of lines) i (with_entry table (ends_above table (i + 1) head))
entries_more lines i text head table is are = with_more (map head_of lines) i head (drop (i + 1) (map head_of lines)) table are (rest_of lines i text head is)

-- the first entry gives an end below
pub ends_below : {lines : List Text} {i : ℕ} {table : List Ends} {skips numbers : List ℕ} {found phrased : List Label} → AreRead lines i table skips numbers found phrased → IfSome (kept_ends table 0).end_if (λ m. i ≤ m)
ends_below {lines} {i} {table} are = end_below (map head_of lines) i table are.entries

-- a line that is no Lab is read, by the EndSkip lines from it on
read_no_lab : {lines : List Text} {i : ℕ} {text : Text} {head : Head} {table : List Ends} {skips before numbers : List ℕ} {found phrased : List Label}
    → IsLine lines i text head → reverse skips ≡ filter (is_end_skip_at lines) (numbers_below lines i) → is_lab head ≡ false → AreRead lines (i + 1) table before numbers found phrased
    → AreRead lines i (with_entry table (ends_above table (i + 1) head)) skips numbers found phrased
read_no_lab {lines} {i} {text} {head} {table} {skips} {before} {numbers} {found} {phrased} is end_skips lab are = record {
  entries = entries_more lines i text head table is are.entries;
  end_skips = end_skips;
  labs = passed (is_lab_at lines) lines i numbers is.within are.labs (tested lines i text head is_lab is ∙ lab);
  labels = label_passed label_of lines i found is.within are.labels (tested lines i text head is_lab is ∙ lab);
  phrases = label_passed phrase_of lines i phrased is.within are.phrases (tested lines i text head is_lab is ∙ lab);
}

pub read_end_skip : {lines : List Text} {i : ℕ} {text : Text} {head : Head} {table : List Ends} {skips numbers : List ℕ} {found phrased : List Label}
    → IsLine lines i text head → is_end_skip head ≡ true → is_lab head ≡ false → AreRead lines (i + 1) table skips numbers found phrased
    → AreRead lines i (with_entry table (ends_above table (i + 1) head)) (skips ++ (i + 1) ∷ []) numbers found phrased
read_end_skip {lines} {i} {text} {head} {table} {skips} is skip lab are =
    read_no_lab is (joined (is_end_skip_at lines) lines i skips is.within are.end_skips (tested lines i text head is_end_skip is ∙ skip)) lab are

pub read_lab : {lines : List Text} {i : ℕ} {text : Text} {head : Head} {table : List Ends} {skips numbers : List ℕ} {found phrased : List Label} {label phrase : Text}
    → IsLine lines i text head → is_end_skip head ≡ false → is_lab head ≡ true → label ≡ label_of text → phrase ≡ phrase_of text → AreRead lines (i + 1) table skips numbers found phrased
    → AreRead lines i (with_entry table (ends_above table (i + 1) head)) skips (numbers ++ (i + 1) ∷ []) (found ++ record { text = label; line = i + 1 } ∷ [])
    (phrased ++ record { text = phrase; line = i + 1 } ∷ [])
read_lab {lines} {i} {text} {head} {table} {skips} {numbers} {found} {phrased} {label} {phrase} is skip lab named worded are =
    let labelled : label_at label_of lines (i + 1) ≡ record { text = label; line = i + 1 } = rw (line_of-place lines i text is.within, ← is.line, ← named) refl in
    let phrased_at : label_at phrase_of lines (i + 1) ≡ record { text = phrase; line = i + 1 } = rw (line_of-place lines i text is.within, ← is.line, ← worded) refl in
    record {
      entries = entries_more lines i text head table is are.entries;
      end_skips = passed (is_end_skip_at lines) lines i skips is.within are.end_skips (tested lines i text head is_end_skip is ∙ skip);
      labs = joined (is_lab_at lines) lines i numbers is.within are.labs (tested lines i text head is_lab is ∙ lab);
      labels = label_joined label_of lines i found _ is.within are.labels (tested lines i text head is_lab is ∙ lab) (sym labelled);
      phrases = label_joined phrase_of lines i phrased _ is.within are.phrases (tested lines i text head is_lab is ∙ lab) (sym phrased_at);
    }

pub read_other : {lines : List Text} {i : ℕ} {text : Text} {head : Head} {table : List Ends} {skips numbers : List ℕ} {found phrased : List Label}
    → IsLine lines i text head → is_end_skip head ≡ false → is_lab head ≡ false → AreRead lines (i + 1) table skips numbers found phrased
    → AreRead lines i (with_entry table (ends_above table (i + 1) head)) skips numbers found phrased
read_other {lines} {i} {text} {head} {table} {skips} is skip lab are =
    read_no_lab is (passed (is_end_skip_at lines) lines i skips is.within are.end_skips (tested lines i text head is_end_skip is ∙ skip)) lab are

-- a line that is neither an EndSkip nor a Lab
pub neither : (head : Head) → (head ≡ EndSkip → ⊥) → (head ≡ Lab → ⊥) → (is_end_skip head ≡ false) × (is_lab head ≡ false)
neither If skip lab = (refl, refl)
neither Else skip lab = (refl, refl)
neither EndIf skip lab = (refl, refl)
neither EndSkip skip lab = absurd (skip refl)
neither Lab skip lab = absurd (lab refl)
neither Other skip lab = (refl, refl)
