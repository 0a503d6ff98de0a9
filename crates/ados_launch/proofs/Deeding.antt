-- Deeds that follow one another, and the acts that they are.
use Rattle.std.proofs.Common.{◌≡◌, ℕ, ◌+◌, List, [], ◌∷◌, ◌++◌, Bool, true, false, length, take, Option, Ok, refl, sym, ap, subst, append_assoc, append-nil, arith}
use Rattle.std.proofs.KnownBytes.{Appends-nil, Appends-trans}
use Rattle.std.proofs.Math.Seq.{take-append-add}
use Rattle.std.proofs.lemmas.List.{take_all}
use Rattle.std.specs.Io.KnownBytes.{Appends}
use Rattle.ados_machine.specs.LoneShell.{world_with_opened}
use Rattle.ados_machine.specs.Runs.{Runs, resulting_world}
use Rattle.ados_machine.specs.Step.{step_of}
use Rattle.ados_machine.specs.World.{WorldState}
use Rattle.ados_launch.specs.Deeds.{AloneRun, Deed, Took, RanAlone, RunsAlone, DeedsLead, AreWritten, Does, RunsLines, acts_of_deeds, acts_of_items, bytes_of_deeds, deeds_of_runs}
use Rattle.ados_launch.specs.Leads.{Act, Takes, Opens, ActsLead}
use Rattle.ados_launch.specs.Taken.{TakenItem, Given, LongLine, bytes_of, taken_events, taken_outs, world_after_item, IsAccepted}

led-append : (w mid last : WorldState) (acts more : List Act) → ActsLead w acts mid → ActsLead mid more last → ActsLead w (acts ++ more) last
led-append w mid last [] more led after = subst (λ v. ActsLead v more last) led after
led-append w mid last (Takes event out ∷ acts) more led after =
    (led.0, led-append (resulting_world w (Ok out) (step_of w event)) mid last acts more led.1 after)
led-append w mid last (Opens k line ∷ acts) more led after =
    (led.0, led.1, led-append (world_with_opened w k (line ∷ [])) mid last acts more led.2 after)

-- one after another
pub deeds-append : (w mid last : WorldState) (deeds more : List Deed) → DeedsLead w deeds mid → DeedsLead mid more last → DeedsLead w (deeds ++ more) last
deeds-append w mid last [] more led after = subst (λ v. DeedsLead v more last) led after
deeds-append w mid last (Took item ∷ deeds) more led after = (led.0, deeds-append (world_after_item w item) mid last deeds more led.1 after)
deeds-append w mid last (RanAlone run ∷ deeds) more led after = (led.0, led.1, deeds-append led.0 mid last deeds more led.2 after)

pub bytes-append : (deeds more : List Deed) → bytes_of_deeds (deeds ++ more) ≡ bytes_of_deeds deeds ++ bytes_of_deeds more
bytes-append [] more = refl
bytes-append (Took item ∷ deeds) more = rw (bytes-append deeds more) (sym (append_assoc (bytes_of item) (bytes_of_deeds deeds) (bytes_of_deeds more)))
bytes-append (RanAlone run ∷ deeds) more = bytes-append deeds more

-- lines that ran alone have nothing written
pub bytes-alone : (runs : List AloneRun) → bytes_of_deeds (deeds_of_runs runs) ≡ []
bytes-alone [] = refl
bytes-alone (run ∷ runs) = bytes-alone runs

-- the acts of what a shell took
items-lead : (w last : WorldState) (taken : List TakenItem) → Runs w (taken_events taken) (taken_outs taken) last → ActsLead w (acts_of_items taken) last
items-lead w last [] run = run
items-lead w last (Given event out ∷ taken) run = (run.0, items-lead (resulting_world w (Ok out) (step_of w event)) last taken run.1)
items-lead w last (LongLine ∷ taken) run = items-lead w last taken run

pub acts-lead : (w last : WorldState) (deeds : List Deed) → DeedsLead w deeds last → ActsLead w (acts_of_deeds deeds) last
acts-lead w last [] led = led
acts-lead w last (Took (Given event out) ∷ deeds) led = (led.0, acts-lead (resulting_world w (Ok out) (step_of w event)) last deeds led.1)
acts-lead w last (Took LongLine ∷ deeds) led = acts-lead w last deeds led.1
acts-lead w last (RanAlone run ∷ deeds) led =
    let r = led.1 in (
      r.free,
      r.no_fault,
      led-append (world_with_opened w run.shell (run.line ∷ [])) led.0 last (acts_of_items run.taken) (acts_of_deeds deeds) (items-lead (world_with_opened w run.shell (run.line ∷ [])) led.0 run.taken r.runs) (acts-lead led.0 last deeds led.2),
    )

-- all of the bytes are a prefix of them
pub written-any : (is_cut : Bool) (contents contents_now : Option (List ℕ)) (bytes : List ℕ) → Appends contents contents_now bytes → AreWritten is_cut contents contents_now bytes
written-any false contents contents_now bytes all = all
written-any true contents contents_now bytes all = (length bytes, rw (take_all (length bytes) bytes (omega arith)) all)

-- some may be missing
pub written-some : (is_cut : Bool) (contents contents_now : Option (List ℕ)) (bytes : List ℕ) → AreWritten is_cut contents contents_now bytes → AreWritten true contents contents_now bytes
written-some false contents contents_now bytes all = written-any true contents contents_now bytes all
written-some true contents contents_now bytes some = some

-- first all of some bytes, and then some of more
written-then : (is_cut : Bool) (contents mid now : Option (List ℕ)) (bytes more : List ℕ) → Appends contents mid bytes → AreWritten is_cut mid now more → AreWritten is_cut contents now (bytes ++ more)
written-then false contents mid now bytes more all after = Appends-trans contents mid now bytes more all after
written-then true contents mid now bytes more all after =
    (length bytes + after.0, rw take-append-add (Appends-trans contents mid now bytes (take after.0 more) all after.1))

-- nothing happened
pub does-none : (w now : WorldState) (contents contents_now : Option (List ℕ)) → now ≡ w → contents_now ≡ contents → Does w now false contents contents_now
does-none w now contents contents_now same kept = record { deeds = []; lead = same; written = rw kept (Appends-nil contents) }

-- one thing was taken, and all or some of its bytes were written
pub does-one : (is_cut : Bool) (w now : WorldState) (contents contents_now : Option (List ℕ)) (item : TakenItem) → IsAccepted w item → now ≡ world_after_item w item
    → AreWritten is_cut contents contents_now (bytes_of item) → Does w now is_cut contents contents_now
does-one is_cut w now contents contents_now item accepted is written =
    record { deeds = Took item ∷ []; lead = (accepted, is); written = rw (append-nil (bytes_of item)) written }

-- lines ran alone, and nothing was written
pub does-lines : (w now : WorldState) (contents : Option (List ℕ)) → RunsLines w now → Does w now false contents contents
does-lines w now contents r = record { deeds = deeds_of_runs r.0; lead = r.1; written = rw (bytes-alone r.0) (Appends-nil contents) }

-- more followed
pub does-then : (is_cut : Bool) (w mid last : WorldState) (contents contents_mid contents_now : Option (List ℕ)) → Does w mid false contents contents_mid → Does mid last is_cut contents_mid contents_now
    → Does w last is_cut contents contents_now
does-then is_cut w mid last contents contents_mid contents_now d more = record {
  deeds = d.deeds ++ more.deeds;
  lead = deeds-append w mid last d.deeds more.deeds d.lead more.lead;
  written = rw (bytes-append d.deeds more.deeds) (written-then is_cut contents contents_mid contents_now (bytes_of_deeds d.deeds) (bytes_of_deeds more.deeds) d.written more.written);
}

-- whether or not some may be missing
pub does-any : (is_cut : Bool) (w last : WorldState) (contents contents_now : Option (List ℕ)) → Does w last false contents contents_now → Does w last is_cut contents contents_now
does-any is_cut w last contents contents_now d = record { deeds = d.deeds; lead = d.lead; written = written-any is_cut contents contents_now (bytes_of_deeds d.deeds) d.written }

-- no line ran
pub lines-none : (w now : WorldState) → now ≡ w → RunsLines w now
lines-none w now same = ([], same)

-- one line ran
pub lines-one : (w now : WorldState) (run : AloneRun) → RunsAlone w run now → RunsLines w now
lines-one w now run r = (run ∷ [], (now, r, refl))

runs-append : (runs more : List AloneRun) → deeds_of_runs (runs ++ more) ≡ deeds_of_runs runs ++ deeds_of_runs more
runs-append [] more = refl
runs-append (run ∷ runs) more = ap (λ deeds. RanAlone run ∷ deeds) (runs-append runs more)

-- lines ran, and then more
pub lines-then : (w mid last : WorldState) → RunsLines w mid → RunsLines mid last → RunsLines w last
lines-then w mid last r more =
    (r.0 ++ more.0, rw (runs-append r.0 more.0) (deeds-append w mid last (deeds_of_runs r.0) (deeds_of_runs more.0) r.1 more.1))
