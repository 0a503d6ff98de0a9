-- The commands of the Shell that have more options in Release 2, with all their options there.
use Rattle.std.specs.Prelude.{◌≡◌, List, [], ◌∷◌, codes, map}
use Rattle.std.specs.Borrow.{Bor}
use Rattle.ados_text.specs.Text.{Bytes}
use Rattle.ados_resident.specs.declared.commands.Builtin.{Builtin}
use Rattle.ados_resident.specs.declared.commands.Builtin.TheVariants.{Env, Files}
use Rattle.ados_resident.specs.declared.commands.EnvCommand.TheVariants as env
use Rattle.ados_resident.specs.declared.commands.FilesCommand.TheVariants as files
use Rattle.ados_check.specs.declared.release_two.Command.{Command}

-- a command with its options: those that take nothing (`switches`), a word (`values`) or a number (`numbers`); those of them that have no
-- effect which matters here (`idle`); and those that are not implemented
pub record Row : Type 0 where
  pub name : Bytes
  pub builtin : Builtin
  pub switches : List Bytes
  pub values : List Bytes
  pub numbers : List Bytes
  pub idle : List Bytes
  pub unimplemented : List Bytes

-- the commands of the Shell that have more options in Release 2, in order
abbrev pub release_two : List Row
release_two =
    record {
      name = codes "Assign";
      builtin = Env env.Assign;
      switches = codes "LIST" ∷ codes "EXISTS" ∷ codes "DISMOUNT" ∷ codes "DEFER" ∷ codes "PATH" ∷ codes "ADD" ∷ codes "REMOVE" ∷ codes "VOLS" ∷ codes "DIRS" ∷ codes "DEVICES" ∷ [];
      values = codes "NAME" ∷ codes "TARGET" ∷ [];
      numbers = [];
      idle = [];
      unimplemented = codes "DISMOUNT" ∷ [];
    } ∷
    record {
      name = codes "Break";
      builtin = Env env.Break;
      switches = codes "ALL" ∷ codes "C" ∷ codes "D" ∷ codes "E" ∷ codes "F" ∷ [];
      values = codes "PROCESS" ∷ [];
      numbers = [];
      idle = [];
      unimplemented = [];
    } ∷
    record {
      name = codes "Copy";
      builtin = Files files.Copy;
      switches = codes "ALL" ∷ codes "QUIET" ∷ codes "CLONE" ∷ codes "DATES" ∷ codes "NOPRO" ∷ codes "COM" ∷ codes "NOREQ" ∷ codes "NEWER" ∷ [];
      values = codes "FROM" ∷ codes "TO" ∷ [];
      numbers = codes "BUF" ∷ codes "BUFFER" ∷ [];
      idle = codes "CLONE" ∷ codes "DATES" ∷ codes "NOREQ" ∷ codes "BUF" ∷ codes "BUFFER" ∷ [];
      unimplemented = [];
    } ∷
    record {
      name = codes "Delete";
      builtin = Files files.Delete;
      switches = codes "ALL" ∷ codes "QUIET" ∷ codes "FORCE" ∷ [];
      values = codes "FILE" ∷ [];
      numbers = [];
      idle = codes "FORCE" ∷ [];
      unimplemented = [];
    } ∷
    record {
      name = codes "Dir";
      builtin = Files files.Dir;
      switches = codes "ALL" ∷ codes "DIRS" ∷ codes "FILES" ∷ codes "INTER" ∷ [];
      values = codes "DIR" ∷ codes "OPT" ∷ [];
      numbers = [];
      idle = [];
      unimplemented = codes "INTER" ∷ [];
    } ∷
    record {
      name = codes "Echo";
      builtin = Env env.Echo;
      switches = codes "NOLINE" ∷ [];
      values = [];
      numbers = codes "FIRST" ∷ codes "LEN" ∷ [];
      idle = [];
      unimplemented = [];
    } ∷
    record {
      name = codes "Eval";
      builtin = Env env.Eval;
      switches = [];
      values = codes "VALUE1" ∷ codes "OP" ∷ codes "VALUE2" ∷ codes "TO" ∷ codes "LFORMAT" ∷ [];
      numbers = [];
      idle = [];
      unimplemented = [];
    } ∷
    record {
      name = codes "Filenote";
      builtin = Files files.Filenote;
      switches = codes "ALL" ∷ codes "QUIET" ∷ [];
      values = codes "FILE" ∷ codes "COMMENT" ∷ [];
      numbers = [];
      idle = codes "QUIET" ∷ [];
      unimplemented = [];
    } ∷
    record {
      name = codes "List";
      builtin = Files files.List;
      switches = codes "KEYS" ∷ codes "DATES" ∷ codes "NODATES" ∷ codes "QUICK" ∷ codes "BLOCK" ∷ codes "NOHEAD" ∷ codes "FILES" ∷ codes "DIRS" ∷ codes "ALL" ∷ [];
      values = codes "DIR" ∷ codes "P" ∷ codes "PAT" ∷ codes "TO" ∷ codes "SUB" ∷ codes "SINCE" ∷ codes "UPTO" ∷ codes "LFORMAT" ∷ [];
      numbers = [];
      idle = codes "KEYS" ∷ codes "DATES" ∷ codes "NODATES" ∷ codes "BLOCK" ∷ codes "NOHEAD" ∷ [];
      unimplemented = codes "SINCE" ∷ codes "UPTO" ∷ [];
    } ∷
    record {
      name = codes "Path";
      builtin = Env env.Path;
      switches = codes "ADD" ∷ codes "SHOW" ∷ codes "RESET" ∷ codes "REMOVE" ∷ codes "QUIET" ∷ [];
      values = codes "PATH" ∷ [];
      numbers = [];
      idle = codes "QUIET" ∷ [];
      unimplemented = [];
    } ∷
    record {
      name = codes "Protect";
      builtin = Files files.Protect;
      switches = codes "ADD" ∷ codes "SUB" ∷ codes "ALL" ∷ codes "QUIET" ∷ [];
      values = codes "FILE" ∷ codes "FLAGS" ∷ [];
      numbers = [];
      idle = codes "QUIET" ∷ [];
      unimplemented = [];
    } ∷
    record {
      name = codes "Rename";
      builtin = Files files.Rename;
      switches = codes "QUIET" ∷ [];
      values = codes "FROM" ∷ codes "TO" ∷ codes "AS" ∷ [];
      numbers = [];
      idle = codes "QUIET" ∷ [];
      unimplemented = [];
    } ∷
    record {
      name = codes "Status";
      builtin = Env env.Status;
      switches = codes "FULL" ∷ codes "TCB" ∷ codes "CLI" ∷ codes "ALL" ∷ [];
      values = codes "PROCESS" ∷ codes "COM" ∷ codes "COMMAND" ∷ [];
      numbers = [];
      idle = [];
      unimplemented = [];
    } ∷
    record {
      name = codes "Type";
      builtin = Files files.Type;
      switches = codes "HEX" ∷ codes "NUMBER" ∷ [];
      values = codes "FROM" ∷ codes "TO" ∷ codes "OPT" ∷ [];
      numbers = [];
      idle = [];
      unimplemented = [];
    } ∷
    record {
      name = codes "Which";
      builtin = Env env.Which;
      switches = codes "NORES" ∷ codes "RES" ∷ codes "ALL" ∷ [];
      values = codes "FILE" ∷ [];
      numbers = [];
      idle = [];
      unimplemented = [];
    } ∷ []

-- the bytes of names
abbrev pub texts : List (Bor Bytes) → List Bytes
texts names = map (λ (name : Bor Bytes). name.now) names

-- a command with its options, as the code has it
abbrev pub row_of : Command → Row
row_of command =
    record {
      name = command.name.now;
      builtin = command.builtin;
      switches = texts command.switches.now;
      values = texts command.values.now;
      numbers = texts command.numbers.now;
      idle = texts command.idle.now;
      unimplemented = texts command.unimplemented.now;
    }

-- some commands of the code are those of the Shell that have more options in Release 2, in order
abbrev pub AreReleaseTwo : List Command → Type 0
AreReleaseTwo commands = map row_of commands ≡ release_two
