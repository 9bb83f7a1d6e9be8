-- Definition: where masters connect.
use Rattle.std.specs.declared.net.tcp.TcpListener.{TcpListener}
use Rattle.dnp_tcp.specs.declared.door.Door.{Door}

-- what they connect to
abbrev pub listener_of : Door → TcpListener
listener_of door = door.listener
