-- What Assign is given besides NAME, and what is wrong with it.
use Rattle.std.specs.Prelude.{Bool, not, ◌&&◌, ◌||◌, nat_lt, length, List, Option, Some, None, if◌then◌else◌}
use Rattle.std.specs.Option.{option_or}
use Rattle.ados_text.specs.declared.codes.TheConstants.Result2.{ARGUMENT_MISSING, TOO_MANY_ARGUMENTS}
use Rattle.ados_readargs.specs.declared.args.Arg.{Arg}
use Rattle.ados_readargs.specs.Args.{option_texts, has_switch}
use Rattle.ados_find.specs.declared.codes.Codes.{Codes}
use Rattle.ados_find.specs.Codes.{fail_codes}
use Rattle.ados_env.specs.declared.assign_request.Request.{Request}

-- what Assign is asked to do: EXISTS prints; DEFER and PATH keep TARGET as a text; ADD and REMOVE change the directories of an assign
abbrev pub parsed_request : List Arg → Request
parsed_request args = record {
  prints = has_switch args 2;
  defers = has_switch args 3;
  follows = has_switch args 4;
  adds = has_switch args 5;
  removes = has_switch args 6;
  targets = option_texts args 1;
}

-- TARGET is given
abbrev pub has_target : Request → Bool
has_target r = nat_lt 0 (length r.targets)

-- TARGET is kept as a text: DEFER or PATH is given
abbrev pub keeps_text : Request → Bool
keeps_text r = r.defers || r.follows

-- the directories of an assign are changed: ADD or REMOVE is given
abbrev pub changes_list : Request → Bool
changes_list r = r.adds || r.removes

-- two of EXISTS, DEFER, PATH, ADD and REMOVE are given
abbrev pub are_two : Request → Bool
are_two r =
    (r.prints && (r.defers || (r.follows || (r.adds || r.removes))))
    || ((r.defers && (r.follows || (r.adds || r.removes))) || ((r.follows && (r.adds || r.removes)) || (r.adds && r.removes)))

-- these codes, if something is wrong
abbrev pub fault_if : Bool → Codes → Option Codes
fault_if wrong codes = if wrong then Some codes else None

-- what is wrong with a request before its name is checked (`has_name`: NAME is given): two switches, or EXISTS with TARGET; or, without
-- NAME, TARGET or a switch other than EXISTS
abbrev pub request_fault : Request → Bool → Option Codes
request_fault r has_name =
    option_or (fault_if (are_two r || (r.prints && has_target r)) (fail_codes TOO_MANY_ARGUMENTS))
    (fault_if (not has_name && (has_target r || (keeps_text r || changes_list r))) (fail_codes ARGUMENT_MISSING))

-- what is wrong with the TARGET of a request, once its name is checked: ADD, PATH and DEFER need one, and PATH and DEFER only one
abbrev pub targets_fault : Request → Option Codes
targets_fault r =
    option_or (fault_if ((r.adds || keeps_text r) && not (has_target r)) (fail_codes ARGUMENT_MISSING))
    (fault_if (keeps_text r && nat_lt 1 (length r.targets)) (fail_codes TOO_MANY_ARGUMENTS))
