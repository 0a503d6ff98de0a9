use Rattle.std.proofs.Common.{refl}
use Rattle.ados_ram.specs.Entry.{fresh_bits, with_bits, with_comment}
use Rattle.ados_ram.proofs.FirstLemmas.{first-within}
use Rattle.ados_ram.proofs.RenamedFiles.{renamed-within}
use Rattle.ados_ram.proofs.WithinLemmas.{up-same, written-within, put-open-within, made-within, with-changed-within, removed-within}
use Rattle.ados_ram.proofs.laws.limits_hold.Goals as goal

pub returns : goal.returns
returns c = record {
  first = first-within;
  write = λ limits is_open files key name bytes free within. written-within is_open key name bytes fresh_bits (up-same limits) within free;
  write_as = λ limits is_open files key name bytes bits free within. written-within is_open key name bytes bits (up-same limits) within free;
  append = λ limits is_open files key name bytes free within. written-within is_open key name _ fresh_bits (up-same limits) within free;
  put_open = λ limits files key name bytes free within. put-open-within key name bytes (up-same limits) within free;
  make_dir = λ limits files key name free within. made-within key name (up-same limits) within free;
  delete = λ limits files key within. removed-within files key within;
  rename = λ limits busy files from to name tree free within. renamed-within busy from to name tree within free;
  protect = λ limits files key bits within. with-changed-within files key (with_bits bits) (λ e. refl) within;
  comment = λ limits files key comment within. with-changed-within files key (with_comment comment) (λ e. refl) within;
}
