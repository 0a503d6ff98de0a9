use Rattle.std.proofs.Common.{◌≡◌, ◌⊎◌, List, [], ◌∷◌, Option, Some, None, false, inl, inr, refl, sym, subst, ◌∙◌}
use Rattle.clap.specs.Walk.{Row, Text}
use Rattle.clap.specs.Simple.{subcommand_of}
use Rattle.clap.specs.Kinds.{IsAmong, Kinds}
use Rattle.clap.specs.Faults.{fault_of}
use Rattle.clap.specs.declared.error.kind.ErrorKind.{ErrorKind}
use Rattle.clap.specs.declared.error.kind.ErrorKind.TheVariants.{OutOfMemory, DisplayHelp, DisplayVersion}
use Rattle.clap.proofs.OnLiterals.{clap_on_literals}
use Rattle.amishell.specs.Command.{amishell}
use Rattle.amishell.specs.Asked.{AsksFor, AsksNothing, HasMistake, HasRequest, IsAsked, IsRefusal, IsRefusalOf, IsRequest}
use Rattle.ados_resident.specs.declared.dialects.Dialect.TheVariants.{Core}
use Rattle.amishell.specs.declared.request.Asked.{Asked}
use Rattle.amishell.specs.declared.request.Asked.TheVariants.{Run, Replay}
use Rattle.amishell.specs.declared.request.Refused.{Refused}
use Rattle.amishell.specs.declared.request.Refused.TheVariants.{BadLine, Help, NoMemory}

-- out of memory is not a request
no_request : (k : ErrorKind) → k ≡ OutOfMemory → IsRequest k → ⊥
no_request k m (inl h) = let e : DisplayHelp ≡ OutOfMemory = sym h ∙ m in cc
no_request k m (inr h) = let e : DisplayVersion ≡ OutOfMemory = sym h ∙ m in cc

-- an error of a kind that the words may have is refused as its kind says
pub refused : (words : List Text) (k : ErrorKind) (r : Refused) → (k ≡ OutOfMemory) ⊎ IsAmong k (fault_of amishell words) → IsRefusalOf k r → IsRefusal words r
refused words k BadLine (inl m) h = absurd (h.1 m)
refused words k BadLine (inr a) h = inl (k, a, h.0)
refused words k (Help text) (inl m) h = absurd (no_request k m h)
refused words k (Help text) (inr a) h = (k, a, h)
refused words k NoMemory h i = tt

no_fault : fault_of amishell [] ≡ []
unfolding clap_on_literals
no_fault = refl

no_command : subcommand_of amishell [] ≡ None
unfolding clap_on_literals
no_command = refl

not_a_mistake : (kinds : Kinds) → kinds ≡ [] → HasMistake kinds → ⊥
not_a_mistake [] e (k, a, n) = a
not_a_mistake (x ∷ xs) e h = cc

not_a_request : (kinds : Kinds) → kinds ≡ [] → HasRequest kinds → ⊥
not_a_request [] e (k, a, n) = a
not_a_request (x ∷ xs) e h = cc

-- without a command there is a run
asks_for_a_run : (entered : Option (Text × List Row)) → entered ≡ None → AsksNothing entered → ⊥
asks_for_a_run None e nothing = nothing (Run Core None 1_000_000 false) (refl, refl, refl, refl)
asks_for_a_run (Some p) e nothing = cc

-- and nothing else
only_a_run : (entered : Option (Text × List Row)) (a : Asked) → entered ≡ None → AsksFor entered a → a ≡ Run Core None 1_000_000 false
only_a_run None (Run dialect hosts turns traces) e h = rw (h.0, h.1, h.2, h.3) refl
only_a_run None (Replay file traces) e h = absurd h
only_a_run (Some p) a e h = cc

-- an empty list of words is refused only if an allocation fails
none_refused : (r : Refused) → IsRefusal [] r → r ≡ NoMemory
none_refused BadLine (inl m) = absurd (not_a_mistake _ no_fault m)
none_refused BadLine (inr h) = absurd (asks_for_a_run _ no_command h.1)
none_refused (Help text) h = absurd (not_a_request _ no_fault h)
none_refused NoMemory h = refl

pub no_words_refused : (words : List Text) (r : Refused) → words ≡ [] → IsRefusal words r → r ≡ NoMemory
no_words_refused words r e h = none_refused r (subst (λ w. IsRefusal w r) e h)

-- an empty list of words asks for a run in Core, without hosts and a trace, and with a million turns
pub no_words_asked : (words : List Text) (a : Asked) → words ≡ [] → IsAsked words a → a ≡ Run Core None 1_000_000 false
no_words_asked words a e h = only_a_run _ a no_command (subst (λ w. AsksFor (subcommand_of amishell w) a) e h.1)
