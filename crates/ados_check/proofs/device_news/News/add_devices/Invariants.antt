use Rattle.std.proofs.Common.{◌≡◌, drop}
use Rattle.ados_check.specs.DeviceNews.{news_of, with_devices}
use Rattle.ados_check.proofs.device_news.News.add_devices.Given as goal

abbrev pub invariant-loop-device : goal.invariant-loop-device
invariant-loop-device l = with_devices l.number l.devices (news_of l.initial.self) ≡ with_devices l.number (drop l.device-index l.devices) (news_of l.self)
