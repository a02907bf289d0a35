pub mod LaterCalls
