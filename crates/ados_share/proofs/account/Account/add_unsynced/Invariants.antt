use Rattle.std.proofs.Common.{◌≡◌, ◌++◌}
use Rattle.ados_share.specs.Account.{contents_of}
use Rattle.ados_share.proofs.account.Account.add_unsynced.Given as goal

-- what is noted and what is left is what was noted before and all of them
abbrev pub invariant-loop-file : goal.invariant-loop-file
invariant-loop-file l =
    (goal.iterator-loop-file).can_next l.file-iterator ×
    (goal.iterator-loop-file).is_finite l.file-iterator ×
    (l.self.unsynced.items ++ l.file-iterator.rest.items ≡ l.initial.self.unsynced.items ++ l.fn.files.items) ×
    (contents_of l.self.unwritten_files.items ++ contents_of l.file-iterator.rest.items ≡ contents_of l.initial.self.unwritten_files.items ++ contents_of l.fn.files.items) ×
    (l.self ≡ record l.initial.self { unsynced = l.self.unsynced; unwritten_files = l.self.unwritten_files })
