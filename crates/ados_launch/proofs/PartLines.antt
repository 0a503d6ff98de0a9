-- What was taken of a line, if there was no memory for it.
use Rattle.std.proofs.Common.{◌≡◌, ℕ, suc, ◌+◌, ◌<◌, ◌≤◌, List, [], ◌∷◌, length, drop, Option, Some, arith, refl, ap, sym, ◌∙◌, subst, length-append, inl, inr}
use Rattle.std.specs.Prelude.{if◌then◌else◌}
use Rattle.std.proofs.Math.Seq.{drop-append_seam}
use Rattle.std.proofs.lemmas.Bool.{cases_Bool, cases_lt}
use Rattle.ados_machine.specs.declared.events.BreakAt.{BreakAt}
use Rattle.ados_text.specs.Lines.{is_newline}
use Rattle.ados_launch.specs.declared.lines.LineKind.{LineKind}
use Rattle.ados_launch.specs.declared.lines.LineKind.TheVariants.{Overlong}
use Rattle.ados_launch.specs.Lines.{bytes_ahead, kind_of, IfKnown, line_of, rest_of, TakesLine}
use Rattle.ados_launch.specs.NoFurther.{ReadsOnlyDueLine, TakesPart, TakesPartAt}
use Rattle.ados_launch.specs.Schedule.{AtLine, Next, ScheduleState, next_after_taken, scheduled_next}
use Rattle.ados_launch.specs.Session.{Moment}
use Rattle.ados_launch.specs.Taken.{rest_after_items}
use Rattle.ados_launch.proofs.Scanning.{Scanned, overlong_kind}
use Rattle.ados_launch.proofs.Sessions.{Driven, next-is}

-- after a line and the byte 10 after it comes the rest
drop-line : (bytes : List ℕ) → drop (length (line_of bytes) + 1) bytes ≡ rest_of bytes
drop-line [] = refl
drop-line (b ∷ bytes) =
    elim (cases_Bool (is_newline b)) [
      | inl here ↦ ap (λ t. drop (length (if t then [] else b ∷ line_of bytes) + 1) (b ∷ bytes)) here ∙ ap (λ t. if t then bytes else rest_of bytes) (sym here)
      | inr past ↦
          let one : suc (length (line_of bytes)) + 1 ≡ suc (length (line_of bytes) + 1) = omega arith in
          ap (λ t. drop (length (if t then [] else b ∷ line_of bytes) + 1) (b ∷ bytes)) past
          ∙ (ap (λ n. drop n (b ∷ bytes)) one ∙ (drop-line bytes ∙ ap (λ t. if t then bytes else rest_of bytes) (sym past)))
    ]

-- a line that is not overlong
line-within : (bytes : List ℕ) → (kind_of bytes ≡ Overlong → ⊥) → length (line_of bytes) ≤ 65536
line-within [] other = omega arith
line-within (b ∷ bytes) other =
    elim (cases_lt 65536 (length (line_of (b ∷ bytes)))) [
      | inl over ↦ absurd (other (overlong_kind (length (line_of (b ∷ bytes))) over))
      | inr short ↦ short
    ]

-- none of it
abbrev pub part-none : (bytes : List ℕ) (now : Option (List ℕ)) → now ≡ Some bytes → TakesPart bytes now
part-none bytes now e = record { count = 0; within = omega arith; few = omega arith; now_is = e }

-- as much as was scanned
pub part-scanned : (bytes : List ℕ) (n : ℕ) (now : Option (List ℕ)) (kept : List ℕ) → n ≤ 65537 → Scanned bytes n now kept → TakesPart bytes now
part-scanned bytes n now kept few s = record {
  count = n;
  within = rw (s.line, length-append) (omega (arith, s.counted));
  few = few;
  now_is = s.now_is ∙ ap Some (sym (drop-append_seam s.front s.later) ∙ (ap (λ xs. drop (length s.front) xs) (sym s.split) ∙ ap (λ m. drop m bytes) s.counted));
}

-- all of it
pub part-whole : (bytes : List ℕ) (kind : LineKind) (kept : List ℕ) (now : Option (List ℕ)) → (kind ≡ Overlong → ⊥) → TakesLine bytes kind kept now → TakesPart bytes now
part-whole bytes kind kept now other t = record {
  count = length (line_of bytes) + 1;
  within = omega arith;
  few = let short = line-within bytes (λ e. other (t.kind_is ∙ e)) in omega (arith, short);
  now_is = t.now_is other ∙ ap Some (sym (drop-line bytes));
}

pub part-kind : (bytes : List ℕ) (kind other : LineKind) (kept : List ℕ) (now : Option (List ℕ)) → kind ≡ other → (other ≡ Overlong → ⊥) → TakesLine bytes kind kept now → TakesPart bytes now
part-kind bytes kind other kept now is differs t = part-whole bytes kind kept now (λ e. differs (sym is ∙ e)) t

-- if a line comes next, and if anything else does
pub part-at-line : (next : Next) (bytes : List ℕ) (now : Option (List ℕ)) → next ≡ AtLine → TakesPart bytes now → TakesPartAt next bytes now
part-at-line next bytes now at p = record { part = p; none = λ other. absurd (other at) }

pub part-at-none : (next : Next) (bytes : List ℕ) (now : Option (List ℕ)) → now ≡ Some bytes → TakesPartAt next bytes now
part-at-none next bytes now e = record { part = part-none bytes now e; none = λ other. refl }

-- for what comes next nothing was read past the line that is due
pub no-further : (before mid : Moment) (breaks : List BreakAt) (n : ℕ) (schedule : ScheduleState) (rest : Option (List ℕ)) (next : Next) (held : List ℕ) (left : Option (List ℕ)) (d : Driven before mid breaks n schedule rest)
    → scheduled_next schedule mid.world ≡ Some next → length held < 4096 → IfKnown rest (λ bytes. TakesPartAt next bytes (bytes_ahead held left))
    → IfKnown before.left (λ bytes. ReadsOnlyDueLine (next_after_taken breaks before.world d.taken mid.world) (rest_after_items bytes d.taken) left)
no-further before mid breaks n schedule rest next held left d here less part bytes e =
    let at : TakesPartAt next (rest_after_items bytes d.taken) (bytes_ahead held left) = part (rest_after_items bytes d.taken) (d.left_is bytes e) in
    subst (λ found. ReadsOnlyDueLine found (rest_after_items bytes d.taken) left) (sym (next-is before mid breaks n schedule rest next d here))
    (record {
      count = at.part.count;
      none = λ other. at.none (λ is. other (ap Some is));
      within = at.part.within;
      few = at.part.few;
      left_is = (held, less, at.part.now_is);
    })
