use Rattle.std.proofs.Common.{◌≡◌, ◌+◌, [], drop}
use Rattle.ados_check.specs.DeviceNews.{news_of, with_lines}
use Rattle.ados_check.proofs.device_news.new_devices.Given as goal

abbrev pub invariant-loop-place : goal.invariant-loop-place
invariant-loop-place l =
    with_lines l.dialect 1 l.lines (record { devices = []; found = [] }) ≡ with_lines l.dialect (l.place + 1) (drop l.place l.lines) (news_of l.news)
