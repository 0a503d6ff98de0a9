-- A script ends early exactly at its first record that reaches the limit: this, with what its end gives back, is that it obeys the limit.
use Rattle.std.proofs.Common.{◌≡◌, ◌∙◌, sym, ℕ, suc, List, [], ◌∷◌, length, Bool, true, false, if◌then◌else◌, Option, Some, None, refl, ap, inl, inr}
use Rattle.std.specs.Prelude.{option_map, IfSome}
use Rattle.std.proofs.lemmas.Bool.{cases_Bool}
use Rattle.ados_text.specs.declared.codes.Code.{Code}
use Rattle.ados_flow.specs.declared.kinds.FrameKind.{FrameKind}
use Rattle.ados_flow.specs.declared.kinds.FrameKind.TheVariants.{Script, RunCommands, Tick}
use Rattle.ados_flow.specs.declared.records.Record.{Record}
use Rattle.ados_flow.specs.Frames.{FrameState, is_script, is_at_limit}
use Rattle.ados_machine.specs.Items.{TraceItem}
use Rattle.ados_machine.specs.Trace.{trace, own, frames_of}
use Rattle.ados_machine.specs.FrameEnds.{End, EndsBy, BelowLimits, IsBelowIf, IsBelowLimit, Obeys, ObeysLimit, ObeyLimits, Story, last_of}
use Rattle.ados_machine.specs.Early.{reaches, first_reaching, place_of_last, ended_early_at, EndsEarlyAtFirst, GivesBack, OfEachFrame, EarlyAndBackIsToObey, ScriptsEndEarlyAtTheirFirst, FramesGiveBack}
use Rattle.ados_machine.proofs.Traces.{limits-hold}

-- whether the last of these records reached its limit, told by the end
abbrev early_place : List Record → Bool → Option ℕ
early_place records early = if early then place_of_last records else None

-- one record that may be at its limit, and no other after it
one-early : (entry : Record) (early : Bool) → early ≡ reaches entry → first_reaching (entry ∷ []) ≡ early_place (entry ∷ []) early
one-early entry true is = rw (sym is) refl
one-early entry false is = rw (sym is) refl

-- one more record before, which is below its limit
more-early : (entry next : Record) (entries : List Record) (early : Bool) → IsBelowLimit entry →
    first_reaching (next ∷ entries) ≡ early_place (next ∷ entries) early → first_reaching (entry ∷ next ∷ entries) ≡ early_place (entry ∷ next ∷ entries) early
more-early entry next entries true below is = rw below (ap (option_map suc) is)
more-early entry next entries false below is = rw below (ap (option_map suc) is)

abbrev early_of : Option End → Bool
early_of None = false
early_of (Some end) = end.early

-- whether the last record reached the limit is what the end says
abbrev TellsEarly : List Record → Option End → Type 0
TellsEarly records None = Unit {0}
TellsEarly records (Some end) = (end.broken ≡ true → end.early ≡ false) × (end.broken ≡ false → end.early ≡ is_at_limit (last_of records))

last-early : (entry : Record) (end : Option End) → BelowLimits (entry ∷ []) end → TellsEarly (entry ∷ []) end →
    first_reaching (entry ∷ []) ≡ early_place (entry ∷ []) (early_of end)
last-early entry None below tells = rw below refl
last-early entry (Some end) below tells =
    elim (cases_Bool end.broken) [
      | inl e ↦ (let last : IsBelowLimit entry = rw e at below in rw (last, tells.0 e) refl)
      | inr e ↦ one-early entry end.early (tells.1 e)
    ]

none-early : (end : Option End) → early_place [] (early_of end) ≡ None
none-early None = refl
none-early (Some end) = elim (cases_Bool end.early) [ inl e ↦ rw e refl | inr e ↦ rw e refl ]

all-early : (records : List Record) (end : Option End) → BelowLimits records end → TellsEarly records end →
    first_reaching records ≡ early_place records (early_of end)
all-early [] end below tells = sym (none-early end)
all-early (entry ∷ []) end below tells = last-early entry end below tells
all-early (entry ∷ next ∷ entries) None below tells =
    more-early entry next entries false below.0 (all-early (next ∷ entries) None below.1 tt)
all-early (entry ∷ next ∷ entries) (Some end) below tells =
    more-early entry next entries end.early below.0 (all-early (next ∷ entries) (Some end) below.1 tells)

place-early : (records : List Record) (end : Option End) → early_place records (early_of end) ≡ ended_early_at records end
place-early records None = refl
place-early records (Some end) = refl

tells-by : (broken : Bool) (name command : List ℕ) (scripts : ℕ) (limit : Code) (records : List Record) (end : End) →
    EndsBy broken (Script name command) scripts limit records end →
    (broken ≡ true → end.early ≡ false) × (broken ≡ false → end.early ≡ is_at_limit (last_of records))
tells-by true name command scripts limit records end ends = (λ e. ends.0.early_is, λ e. cc)
tells-by false name command scripts limit records end ends = (λ e. cc, λ e. ends.0.early_is)

tells-early : (name command : List ℕ) (scripts : ℕ) (limit : Code) (records : List Record) (end : Option End) →
    IfSome end (λ e. EndsBy e.broken (Script name command) scripts limit records e) → TellsEarly records end
tells-early name command scripts limit records None ends = tt
tells-early name command scripts limit records (Some end) ends = tells-by end.broken name command scripts limit records end ends

-- a frame that obeys its limit ends early at its first
obeys-early : (kind : FrameKind) (scripts : ℕ) (limit : Code) (records : List Record) (end : Option End) → ObeysLimit kind scripts limit records end →
    is_script kind ≡ true → first_reaching records ≡ ended_early_at records end
obeys-early (Script name command) scripts limit records end obeys is =
    all-early records end obeys.0 (tells-early name command scripts limit records end obeys.1) ∙ place-early records end
obeys-early RunCommands scripts limit records end obeys is = cc
obeys-early (Tick before after) scripts limit records end obeys is = cc

-- and gives back what it has
obeys-back : (kind : FrameKind) (scripts : ℕ) (limit : Code) (records : List Record) (end : Option End) → ObeysLimit kind scripts limit records end →
    IfSome end (λ e. EndsBy e.broken kind scripts limit records e)
obeys-back (Script name command) scripts limit records end obeys = obeys.1
obeys-back RunCommands scripts limit records end obeys = obeys
obeys-back (Tick before after) scripts limit records end obeys = obeys

story-early : (story : Story) → Obeys story → EndsEarlyAtFirst story
story-early story obeys = obeys-early story.kind story.scripts story.limit story.records story.end obeys

story-back : (story : Story) → Obeys story → GivesBack story
story-back story obeys = obeys-back story.kind story.scripts story.limit story.records story.end obeys

-- what the place of the first says of the first record, and of those after it
suc-none : (o : Option ℕ) → option_map suc o ≡ None → o ≡ None
suc-none None e = refl
suc-none (Some n) e = cc

suc-some : (o : Option ℕ) (n : ℕ) → option_map suc o ≡ Some (suc n) → o ≡ Some n
suc-some None n e = cc
suc-some (Some m) n e = cc

some-none : (n : ℕ) → Some n ≡ None → ⊥
some-none n e = cc

below-if : (broken : Bool) (entry : Record) → IsBelowLimit entry → IsBelowIf broken entry
below-if true entry below = below
below-if false entry below = tt

head-below : (entry : Record) (entries : List Record) → first_reaching (entry ∷ entries) ≡ None → IsBelowLimit entry × (first_reaching entries ≡ None)
head-below entry entries none =
    elim (cases_Bool (reaches entry)) [
      | inl e ↦ absurd (some-none 0 (rw e at none))
      | inr e ↦ (e, suc-none (first_reaching entries) (rw e at none))
    ]

next-reaching : (entry : Record) (entries : List Record) (n : ℕ) → first_reaching (entry ∷ entries) ≡ Some (suc n) → IsBelowLimit entry × (first_reaching entries ≡ Some n)
next-reaching entry entries n is =
    elim (cases_Bool (reaches entry)) [
      | inl e ↦ (let never : Some 0 ≡ Some (suc n) = rw e at is in cc)
      | inr e ↦ (e, suc-some (first_reaching entries) n (rw e at is))
    ]

-- The other way: none reaches its limit
none-below : (records : List Record) (end : Option End) → first_reaching records ≡ None → BelowLimits records end
none-below [] end none = tt
none-below (entry ∷ []) None none = (head-below entry [] none).0
none-below (entry ∷ []) (Some end) none = below-if end.broken entry (head-below entry [] none).0
none-below (entry ∷ next ∷ entries) end none =
    let parts = head-below entry (next ∷ entries) none in
    (parts.0, none-below (next ∷ entries) end parts.1)

-- the last one is the first that does
last-below : (records : List Record) (end : End) → end.broken ≡ false → first_reaching records ≡ place_of_last records → BelowLimits records (Some end)
last-below [] end whole is = tt
last-below (entry ∷ []) end whole is = rw whole tt
last-below (entry ∷ next ∷ entries) end whole is =
    let parts = next-reaching entry (next ∷ entries) (length entries) is in
    (parts.0, last-below (next ∷ entries) end whole parts.1)

early-below : (early : Bool) (records : List Record) (end : End) → end.early ≡ early → (early ≡ true → end.broken ≡ false) →
    first_reaching records ≡ early_place records early → BelowLimits records (Some end)
early-below true records end is whole place = last-below records end (whole refl) place
early-below false records end is whole place = none-below records (Some end) place

unbroken-early : (broken : Bool) (name command : List ℕ) (scripts : ℕ) (limit : Code) (records : List Record) (end : End) →
    EndsBy broken (Script name command) scripts limit records end → end.early ≡ true → broken ≡ false
unbroken-early true name command scripts limit records end ends early = let never : false ≡ true = sym ends.0.early_is ∙ early in cc
unbroken-early false name command scripts limit records end ends early = refl

early-obeys : (kind : FrameKind) (scripts : ℕ) (limit : Code) (records : List Record) (end : Option End) →
    (is_script kind ≡ true → first_reaching records ≡ ended_early_at records end) → IfSome end (λ e. EndsBy e.broken kind scripts limit records e) →
    ObeysLimit kind scripts limit records end
early-obeys (Script name command) scripts limit records None first back = (none-below records None (first refl), tt)
early-obeys (Script name command) scripts limit records (Some end) first back =
    (early-below end.early records end refl (unbroken-early end.broken name command scripts limit records end back) (first refl), back)
early-obeys RunCommands scripts limit records end first back = back
early-obeys (Tick before after) scripts limit records end first back = back

pub early-and-back : EarlyAndBackIsToObey
early-and-back story =
    (λ first back. early-obeys story.kind story.scripts story.limit story.records story.end first back, story-early story, story-back story)

each-frame : (P : Story → Type 0) → ((story : Story) → Obeys story → P story) → (frames : List FrameState) (log : List TraceItem) →
    ObeyLimits frames log → OfEachFrame P frames log
each-frame P by frames log obey = record {
  older = λ above below frame split. by _ (obey.older above below frame split);
  begun = λ before after depth kind limit split. by _ (obey.begun before after depth kind limit split);
}

pub scripts-end-early : ScriptsEndEarlyAtTheirFirst
scripts-end-early w events outs last run sane k =
    each-frame EndsEarlyAtFirst story-early (frames_of k w) (own k (trace w events outs)) (limits-hold w events outs last run sane k)

pub frames-give-back : FramesGiveBack
frames-give-back w events outs last run sane k =
    each-frame GivesBack story-back (frames_of k w) (own k (trace w events outs)) (limits-hold w events outs last run sane k)
