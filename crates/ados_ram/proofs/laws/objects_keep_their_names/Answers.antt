use Rattle.ados_ram.proofs.NamedLemmas.{append-named, comment-named, delete-named, first-named, make-dir-named, protect-named, put-named, rename-named, write-as-named, write-named}
use Rattle.ados_ram.proofs.laws.objects_keep_their_names.Goals as goal

pub returns : goal.returns
returns c = record {
  first = first-named;
  write = write-named;
  write_as = write-as-named;
  append = append-named;
  put_open = put-named;
  make_dir = make-dir-named;
  delete = delete-named;
  rename = rename-named;
  protect = protect-named;
  comment = comment-named;
}
