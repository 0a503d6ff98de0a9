use Rattle.ados_files.proofs.dumps.+push_hex_lines.Given as goal

abbrev pub decreases-push_hex_lines : goal.decreases-push_hex_lines
decreases-push_hex_lines l = l.count
