mod Ends
mod Extending
mod Following
mod Knowing
mod Leaving
mod Places
mod Shares
mod Taking
