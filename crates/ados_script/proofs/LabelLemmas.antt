-- labels in the order of their texts: those with the same text are neighbours
use Rattle.std.proofs.Common.{ℕ, ◌+◌, ◌≤◌, ◌≡◌, ◌∙◌, List, true, false, not, ◌&&◌, length, take, drop, get_or, refl, ap, sym, arith}
use Rattle.std.specs.declared.cmp.Ordering.{Ordering}
use Rattle.std.specs.declared.cmp.Ordering.TheVariants.{Less, Equal, Greater}
use Rattle.std.specs.Ordering.{is_eq, is_lt, ordering_index, ordering_reverse}
use Rattle.std.specs.List.{filter, AllWithin}
use Rattle.std.specs.List.Sorted.{IsNonDecreasingBy, IsPartitionedBy, IsPartitionPoint, IsSortedByKey, IsStableBy, ties}
use Rattle.std.proofs.lemmas.Bool.{both_ways}
use Rattle.std.proofs.lemmas.List.{get_or-drop, length-drop}
use Rattle.std.proofs.lemmas.List.Sorted.{searchable_from_sorted, IsNonDecreasingBy-drop}
use Rattle.std.proofs.lemmas.Map.Text.{is_eq-slice_cmp}
use Rattle.ados_text.specs.Text.{Text, folded_text}
use Rattle.ados_text.specs.Name.{name_cmp, name_cmp_total}
use Rattle.ados_script.specs.declared.labels.Label.{Label}
use Rattle.ados_script.specs.Tables.{has_text}
use Rattle.ados_script.proofs.ListLemmas.{filter-alike, filter-after, filter-front}

-- how the text of a label compares to another
abbrev pub against : Text → Label → Ordering
against text label = name_cmp (folded_text label.text) (folded_text text)

abbrev pub AreSorted : List Label → Type 0
AreSorted labels = IsSortedByKey (λ (label : Label). folded_text label.text) name_cmp labels

rises : (text : Text) (labels : List Label) → AreSorted labels → IsNonDecreasingBy (λ label. ordering_index (against text label)) labels
rises text labels sorted = searchable_from_sorted name_cmp_total (λ (label : Label). folded_text label.text) labels (folded_text text) sorted

index-less : (o : Ordering) → is_lt o ≡ true → ordering_index o ≡ 0
index-less Less h = refl
index-less Equal h = absurd (both_ways false refl h)
index-less Greater h = absurd (both_ways false refl h)

less-index : (o : Ordering) → ordering_index o ≤ 0 → is_lt o ≡ true
less-index Less h = refl
less-index Equal h = absurd (omega arith)
less-index Greater h = absurd (omega arith)

index-equal : (o : Ordering) → is_eq o ≡ true → ordering_index o ≡ 1
index-equal Less h = absurd (both_ways false refl h)
index-equal Equal h = refl
index-equal Greater h = absurd (both_ways false refl h)

equal-index : (o : Ordering) → ordering_index o ≤ 1 → is_lt o ≡ false → is_eq o ≡ true
equal-index Less h more = absurd (both_ways true more refl)
equal-index Equal h more = refl
equal-index Greater h more = absurd (omega arith)

not-equal : (o : Ordering) → is_lt o ≡ true → is_eq o ≡ false
not-equal Less h = refl
not-equal Equal h = absurd (both_ways false refl h)
not-equal Greater h = refl

pub parted_less : (text : Text) (labels : List Label) → AreSorted labels → IsPartitionedBy (λ label. is_lt (against text label)) labels
parted_less text labels sorted i j d a b h =
    less-index _ (omega (arith, rises text labels sorted i j d a b, index-less _ h))

-- no label has a lesser text
pub AreNoLess : Text → List Label → Type 0
AreNoLess text labels = AllWithin (λ label. is_lt (against text label) ≡ false) labels 0 (length labels)

pub parted_equal : (text : Text) (labels : List Label) (k : ℕ) → AreSorted labels → AllWithin (λ label. is_lt (against text label) ≡ false) labels k (length labels)
    → IsPartitionedBy (λ label. is_eq (against text label)) (drop k labels)
parted_equal text labels k sorted high i j d a b h =
    let long = length-drop k labels in
    let first : get_or (drop k labels) i d ≡ get_or labels (k + i) d = get_or-drop k labels i d in
    equal-index _ (omega (arith, IsNonDecreasingBy-drop (λ (label : Label). ordering_index (against text label)) k labels (rises text labels sorted) i j d a b, index-equal _ h))
    (ap (λ label. is_lt (against text label)) first ∙ high (k + i) d (omega arith) (omega arith))

-- the labels with a text are what two searches by its order find
pub found_all : (text : Text) (labels : List Label) (k n : ℕ)
    → IsPartitionPoint (λ label. is_lt (against text label) ≡ true) (λ label. is_lt (against text label) ≡ false) labels k
    → IsPartitionPoint (λ label. is_eq (against text label) ≡ true) (λ label. is_eq (against text label) ≡ false) (drop k labels) n
    → take n (drop k labels) ≡ filter (has_text text) labels
found_all text labels k n less equal =
    filter-front (λ label. is_eq (against text label)) (drop k labels) n equal.0 equal.1
    ∙ filter-after (λ label. is_eq (against text label)) labels k (λ i d a b. not-equal _ (less.0 i d a b))
    ∙ filter-alike _ (has_text text) (λ label. is_eq-slice_cmp (folded_text label.text) (folded_text text)) labels

-- a label whose text compares as equal to a text has it
tie-equal : (o : Ordering) → (not (is_lt (ordering_reverse o)) && not (is_lt o)) ≡ is_eq o
tie-equal Less = refl
tie-equal Equal = refl
tie-equal Greater = refl

tied : (text : Text) (label : Label) → ties (λ (x y : Label). is_lt (name_cmp (folded_text x.text) (folded_text y.text))) (record { text = text; line = 0 }) label ≡ has_text text label
tied text label =
    rw (name_cmp_total.antisymm (folded_text text) (folded_text label.text)) (tie-equal (against text label)) ∙ is_eq-slice_cmp (folded_text label.text) (folded_text text)

pub stays : (text : Text) (old new : List Label) → IsStableBy (λ (x y : Label). is_lt (name_cmp (folded_text x.text) (folded_text y.text))) old new
    → filter (has_text text) new ≡ filter (has_text text) old
stays text old new stable =
    filter-alike (has_text text) _ (λ label. sym (tied text label)) new ∙ stable (record { text = text; line = 0 }) ∙ filter-alike _ (has_text text) (tied text) old
