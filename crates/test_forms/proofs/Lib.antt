mod KeyLaws
mod StoredLaws
mod TakeLaws
mod ReleasedLaws
mod CountLaws
mod PushLaws
