-- How a line that runs alone goes on, and how it stops.
use Rattle.std.proofs.Common.{◌≡◌, ℕ, suc, ◌+◌, ◌≤◌, ◌<◌, List, [], ◌∷◌, ◌++◌, Bool, true, Some, None, is_some, length, arith, refl, ap, sym, ◌∙◌, inl, inr, append_assoc, append-nil}
use Rattle.ados_text.specs.Text.{Bytes, Text}
use Rattle.ados_find.specs.declared.codes.Codes.{Codes}
use Rattle.ados_machine.specs.declared.outs.Out.{Out}
use Rattle.ados_machine.specs.declared.refusals.Refusal.TheVariants.{NoMemory}
use Rattle.ados_machine.specs.Alone.{exec_alone, bytes_of_outs}
use Rattle.ados_machine.specs.Numbers.{free_number}
use Rattle.ados_machine.specs.Shells.{ShellState}
use Rattle.ados_machine.specs.LoneShell.{world_with_opened}
use Rattle.ados_machine.specs.World.{WorldState, numbered_shell, pending_of, codes_at}
use Rattle.ados_machine.proofs.Systems.{system-ended, system-late}
use Rattle.ados_world.specs.Opened.{opening_fault}
use Rattle.ados_launcher.specs.declared.calls.Call.{Call}
use Rattle.ados_launch.specs.Alone.{EndedAs, IsUntaken, RunsLine, RunsOn, LineProgress, TakesNext}
use Rattle.ados_launch.specs.declared.alone.SystemFault.{SystemFault}
use Rattle.ados_launch.specs.Taken.{Given, taken_outs}
use Rattle.ados_launch.proofs.Sessions.{calls-more}
use Rattle.ados_launch.proofs.Taken.{run-more, asked-more, asked-full}
use Rattle.ados_launch.proofs.AloneLemmas.{replies_in, Going, steps-on, are-more, events-more, bytes-more, printed-more}

abbrev pub going-more : (k : ℕ) (w : WorldState) (line : Text) (turns n : ℕ) (was_full is_full : Bool) (world next : WorldState) (before mid last : Bytes)
    (calls mid_calls calls_now : List Call) (out : Out) →
    Going k w line turns n was_full world before mid calls mid_calls → (was_full ≡ true → is_full ≡ true) → is_some (numbered_shell world k) ≡ true →
    TakesNext k world is_full mid_calls next calls_now out → last ≡ mid ++ out.bytes → Going k w line turns (n + 1) is_full next before last calls calls_now
going-more k w line turns n was_full is_full world next before mid last calls mid_calls calls_now out g stays runs t grown = record {
  taken = g.taken ++ Given t.event out ∷ [];
  answers = g.answers ++ replies_in t.event;
  listed = g.listed ++ t.listed;
  run = rw t.world_is (run-more (world_with_opened w k (line ∷ [])) g.taken world (Given t.event out) g.run t.accepted);
  events_are = are-more k g.taken g.answers t.event out (pending_of world k) g.events_are t.is_next;
  asked = asked-more is_full (world_with_opened w k (line ∷ [])) g.taken g.listed world (Given t.event out) t.listed
      (asked-full was_full is_full (world_with_opened w k (line ∷ [])) g.taken g.listed stays g.asked) g.run t.asked t.when_full;
  calls_are = calls-more calls mid_calls calls_now g.listed t.listed g.calls_are t.calls_are;
  count = events-more g.taken t.event out ∙ ap (λ m. m + 1) g.count;
  printed = printed-more before mid last (bytes_of_outs (taken_outs g.taken)) out.bytes _ g.printed grown (bytes-more g.taken t.event out);
  steps = λ left all rest.
      ap (λ answers. exec_alone k turns answers (world_with_opened w k (line ∷ [])) before) (append_assoc g.answers (replies_in t.event) rest)
      ∙ (g.steps (suc left) (omega (arith, all)) (replies_in t.event ++ rest)
      ∙ rw (t.world_is, grown) (steps-on k left world t.event out mid (numbered_shell world k) refl runs t.is_next t.accepted rest));
}

none-after : (calls now listed : List Call) → now ≡ calls ++ listed → now ≡ calls ++ (listed ++ [])
none-after calls now listed e = e ∙ ap (λ xs. calls ++ xs) (sym (append-nil listed))

abbrev pub runs-line : (k : ℕ) (w : WorldState) (line : Text) (turns n : ℕ) (was_full is_full : Bool) (world : WorldState) (before now : Bytes) (calls mid_calls calls_now others : List Call) →
    opening_fault w line ≡ None → free_number w.shells ≡ Some k → (was_full ≡ true → is_full ≡ true) → calls_now ≡ mid_calls ++ others →
    (g : Going k w line turns n was_full world before now calls mid_calls) → RunsLine k w line is_full g.taken g.answers world calls calls_now others
runs-line k w line turns n was_full is_full world before now calls mid_calls calls_now others good free stays e g = record {
  no_fault = good;
  free = free;
  run = g.run;
  events_are = g.events_are;
  listed = g.listed;
  asked = asked-full was_full is_full (world_with_opened w k (line ∷ [])) g.taken g.listed stays g.asked;
  calls_are = calls-more calls mid_calls calls_now g.listed others g.calls_are e;
}

pub going-ended : (k : ℕ) (w : WorldState) (line : Text) (turns n left : ℕ) (is_full : Bool) (world : WorldState) (before now : Bytes) (calls calls_now : List Call) (codes : Codes) →
    Going k w line turns n is_full world before now calls calls_now → opening_fault w line ≡ None → free_number w.shells ≡ Some k → k ≤ length w.ended → left + n ≡ turns →
    numbered_shell world k ≡ None → codes ≡ codes_at world k → EndedAs w line turns is_full world before now calls calls_now codes
going-ended k w line turns n left is_full world before now calls calls_now codes g good free room all gone told =
    let e = system-ended turns k w line g.answers before now left world free room (g.steps left all) gone in
    record {
      k = k;
      taken = g.taken;
      answers = g.answers;
      left = left;
      bytes = e.0;
      runs = runs-line k w line turns n is_full is_full world before now calls calls_now calls_now [] good free (λ is. is) (sym (append-nil calls_now)) g;
      count = omega (arith, all, g.count);
      meaning = rw told e.2;
      written = e.1;
    }

pub going-late : (k : ℕ) (w : WorldState) (line : Text) (turns : ℕ) (is_full : Bool) (world : WorldState) (before now : Bytes) (calls calls_now : List Call) (shell : ShellState) →
    Going k w line turns turns is_full world before now calls calls_now → opening_fault w line ≡ None → free_number w.shells ≡ Some k → numbered_shell world k ≡ Some shell →
    RunsOn w line turns is_full world before now calls calls_now k
going-late k w line turns is_full world before now calls calls_now shell g good free runs =
    let e = system-late turns k w line g.answers before now 0 world shell free (g.steps 0 (omega arith)) refl runs in
    record {
      taken = g.taken;
      answers = g.answers;
      runs = runs-line k w line turns turns is_full is_full world before now calls calls_now calls_now [] good free (λ is. is) (sym (append-nil calls_now)) g;
      count = g.count;
      meaning = e.2;
      written = g.printed;
    }

-- if an event was not taken
pub stands-untaken : (k : ℕ) (w : WorldState) (line : Text) (turns n : ℕ) (was_full is_full : Bool) (world : WorldState) (before now : Bytes) (calls mid_calls calls_now : List Call) (fault : SystemFault) →
    Going k w line turns n was_full world before now calls mid_calls → opening_fault w line ≡ None → free_number w.shells ≡ Some k → (was_full ≡ true → is_full ≡ true) → is_some (numbered_shell world k) ≡ true → n < turns →
    (others : List Call) × IsUntaken is_full world k fault.answer others × (calls_now ≡ mid_calls ++ others) →
    fault.refusal ≡ NoMemory → fault.events ≡ n → fault.unwritten ≡ [] → LineProgress w line turns is_full fault world before now calls calls_now k
stands-untaken k w line turns n was_full is_full world before now calls mid_calls calls_now fault g good free stays runs within untaken why count none = record {
  taken = g.taken;
  answers = g.answers;
  others = untaken.0;
  runs = runs-line k w line turns n was_full is_full world before now calls mid_calls calls_now untaken.0 good free stays untaken.2 g;
  count = g.count ∙ sym count;
  refusal_is = why;
  stops = inl (runs, omega (arith, count, within), untaken.1, none);
  written = rw none (append-nil now ∙ g.printed);
}

-- if there was no room for what the last event printed
pub stands-unwritten : (k : ℕ) (w : WorldState) (line : Text) (turns n : ℕ) (was_full is_full : Bool) (world next : WorldState) (before mid : Bytes)
    (calls mid_calls calls_now : List Call) (out : Out) (fault : SystemFault) →
    Going k w line turns n was_full world before mid calls mid_calls → opening_fault w line ≡ None → free_number w.shells ≡ Some k → (was_full ≡ true → is_full ≡ true) → is_some (numbered_shell world k) ≡ true → n < turns →
    TakesNext k world is_full mid_calls next calls_now out → fault.refusal ≡ NoMemory → fault.events ≡ n + 1 → fault.answer ≡ None → fault.unwritten ≡ out.bytes → 0 < length fault.unwritten →
    LineProgress w line turns is_full fault next before mid calls calls_now k
stands-unwritten k w line turns n was_full is_full world next before mid calls mid_calls calls_now out fault g good free stays runs within t why count none bytes some =
    let more = going-more k w line turns n was_full is_full world next before mid (mid ++ out.bytes) calls mid_calls calls_now out g stays runs t refl in
    record {
      taken = more.taken;
      answers = more.answers;
      others = [];
      runs = runs-line k w line turns (n + 1) is_full is_full next before (mid ++ out.bytes) calls calls_now calls_now [] good free (λ is. is) (sym (append-nil calls_now)) more;
      count = more.count ∙ sym count;
      refusal_is = why;
      stops = inr (omega (arith, count, within), (g.taken, t.event, out, refl, bytes), some, none, refl);
      written = rw bytes more.printed;
    }
